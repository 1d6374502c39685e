-- The laws of `yard_list`.
pub mod Lines
pub mod Rows
pub mod Cut
