-- The definitions of `trace_lines`.
pub mod TraceLines
pub mod Private
