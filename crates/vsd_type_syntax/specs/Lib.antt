-- What contracts of this crate cite.
pub mod Starts
pub mod Types
pub mod More
pub mod Behaving
pub mod Limits
