-- The definitions of `trace_input`.
pub mod TraceInput
