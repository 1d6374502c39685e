-- The definitions of `yard_list`.
pub mod YardList
pub mod Private
