-- The definitions of `old_lines`.
pub mod OldLines
pub mod Private
