-- What contracts of this crate cite.
pub mod Bodies
pub mod Final
pub mod Levels
pub mod Methods
pub mod Order
pub mod Slots
pub mod Variance
