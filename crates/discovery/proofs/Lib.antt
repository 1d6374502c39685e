-- The laws of `discovery`.
pub mod Scans
