-- The laws of `trace`.
pub mod Lists
pub mod Pages
pub mod Words
