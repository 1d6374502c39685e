-- The definitions of `trace`.
pub mod Lines
pub mod Trace
