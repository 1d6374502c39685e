-- The definitions of `pieces`.
pub mod Pieces
pub mod Statement
