-- The lemmas of this crate.
pub mod Loads
pub mod Lanes
pub mod Numbered
pub mod Pairs
