-- The definitions of `filter`.
pub mod Edges
