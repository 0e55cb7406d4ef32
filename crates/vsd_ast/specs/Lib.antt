-- What contracts over declarations and scripts cite.
pub mod Hierarchy
pub mod Lookup
pub mod Scripts
pub mod WellFormed
