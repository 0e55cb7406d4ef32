-- What contracts of this crate cite.
pub mod Conditions
pub mod Implements
pub mod Known
pub mod Matched
pub mod Targets
