-- The laws of `refusals`.
pub mod Conditions
pub mod Decisions
pub mod Moves
pub mod Refusals
