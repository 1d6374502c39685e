-- The definitions of `leave_indications`.
pub mod Statement
