-- The laws of `text`.
pub mod Parts
pub mod Joined
pub mod Numbers
pub mod Powers
pub mod Decimals
pub mod Sizes
pub mod Forms
pub mod Written
