-- The definitions of `lists`.
pub mod Lists
pub mod Private
