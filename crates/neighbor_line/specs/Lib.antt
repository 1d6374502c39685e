-- The definitions of `neighbor_line`.
pub mod NeighborLine
pub mod Moves
pub mod Statement
pub mod Private
