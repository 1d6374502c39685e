-- The laws of `old_lines`.
mod Lines
