-- The definitions of `two_nodes`.
pub mod Statement
