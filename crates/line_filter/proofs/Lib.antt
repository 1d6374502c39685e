-- The laws of `line_filter`.
mod Going
