-- The definitions of `supervision`.
pub mod Timeouts
pub mod Keepalive
pub mod Failures
pub mod Timer
