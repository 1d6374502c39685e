-- The laws of `supervision`.
pub mod Periods
pub mod Failures
