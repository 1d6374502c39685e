-- The definitions of `marked_cases`.
pub mod MarkedCases
