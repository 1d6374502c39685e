-- The definitions of `join`.
pub mod Join
pub mod Rejoin
