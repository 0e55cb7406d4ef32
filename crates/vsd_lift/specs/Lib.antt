-- What contracts of this crate cite.
pub mod Chain
pub mod Lift
pub mod Settled
