-- The definitions of `nib`.
pub mod Attributes
pub mod Bits
pub mod LinkCost
pub mod Neighbors
pub mod NeighborTable
pub mod Private
