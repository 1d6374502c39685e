-- The definitions of `lent_tick`.
pub mod LentTick
pub mod OwnRecord
pub mod Private
