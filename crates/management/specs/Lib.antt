-- The definitions of `management`.
pub mod Signals
pub mod Frame
