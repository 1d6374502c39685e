-- The laws of `operation`.
pub mod Polls
