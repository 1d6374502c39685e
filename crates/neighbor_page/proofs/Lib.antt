-- The laws of `neighbor_page`.
pub mod Rows
pub mod Gathered
pub mod Form
pub mod PageForm
