-- The definitions of `exchange`.
pub mod Exchange
