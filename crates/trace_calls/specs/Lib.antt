-- The definitions of `trace_calls`.
pub mod TraceCalls
