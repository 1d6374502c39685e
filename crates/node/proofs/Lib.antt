-- The laws of `node`.
pub mod TurnedDown
pub mod Writes
