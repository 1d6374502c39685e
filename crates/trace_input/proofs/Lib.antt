-- The laws of `trace_input`.
pub mod StackProfiles
