-- The laws of `trace_lines`.
pub mod Zips
pub mod Texts
pub mod Lines
pub mod Found
pub mod Long
