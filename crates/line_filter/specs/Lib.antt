-- The definitions of `line_filter`.
pub mod Runs
pub mod Private
