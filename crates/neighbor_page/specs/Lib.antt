-- The definitions of `neighbor_page`.
pub mod Page
pub mod Statement
pub mod Private
