-- The laws of `pieces`.
pub mod Taking
pub mod Lines
