-- The definitions of `candidates`.
pub mod UpdateIds
pub mod Candidates
pub mod Tries
