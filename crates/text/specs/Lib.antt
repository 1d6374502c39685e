-- The definitions of `text`.
pub mod Text
pub mod Form
pub mod Writer
pub mod Statement
pub mod Private
