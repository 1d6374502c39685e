-- The laws of `lent_tick`.
pub mod LentTick
