-- The laws of `two_nodes`.
pub mod Sight
pub mod States
pub mod Decisions
pub mod Frames
pub mod Agreement
pub mod TwoNodes
pub mod Examples
