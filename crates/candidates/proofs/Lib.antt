-- The laws of `candidates`.
pub mod NewestNext
pub mod Chosen
pub mod Listed
pub mod Laws
pub mod Network
