-- The laws of `marked_cases`.
pub mod MarkedCases
