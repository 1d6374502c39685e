-- The laws of `lists`.
pub mod Lists
pub mod Conditions
pub mod First
pub mod Maps
pub mod Pairs
pub mod Collect
pub mod Order
pub mod Indexes
pub mod Ranks
pub mod Bytes
