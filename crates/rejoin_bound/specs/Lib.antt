-- The definitions of `rejoin_bound`.
pub mod Bound
pub mod Polls
