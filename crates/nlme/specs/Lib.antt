-- The definitions of `nlme`.
pub mod Fields
pub mod Nlme
pub mod Received
