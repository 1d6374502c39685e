-- The laws of `nib`.
pub mod Tables
pub mod Entries
pub mod Looks
pub mod Addressed
