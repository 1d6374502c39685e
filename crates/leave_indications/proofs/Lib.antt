-- The laws of `leave_indications`.
pub mod Parent
pub mod Calls
pub mod LeaveIndications
