-- The laws of `nlme`.
pub mod Taught
