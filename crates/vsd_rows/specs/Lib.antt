-- What contracts of this crate cite.
pub mod Retired
pub mod Makes
pub mod Hands
pub mod Sweeps
pub mod Logged
pub mod Leaving
pub mod Claiming
