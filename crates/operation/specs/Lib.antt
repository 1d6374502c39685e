-- The definitions of `operation`.
pub mod Operation
