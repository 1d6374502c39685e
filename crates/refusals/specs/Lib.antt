-- The definitions of `refusals`.
pub mod Statement
