-- The definitions of `discovery`.
pub mod Discovery
pub mod Mlme
