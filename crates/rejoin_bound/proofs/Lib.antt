-- The laws of `rejoin_bound`.
pub mod Measure
pub mod Bound
pub mod Reached
pub mod Polls
