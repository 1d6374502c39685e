-- The laws of `neighbor_line`.
pub mod Moved
pub mod Buffers
pub mod Moves
