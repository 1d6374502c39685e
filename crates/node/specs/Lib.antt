-- The definitions of `node`.
pub mod Beginning
pub mod Looks
pub mod Refusals
pub mod Calls
pub mod Private
