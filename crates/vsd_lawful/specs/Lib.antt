-- What contracts of this crate cite.
pub mod Index
pub mod Keys
pub mod Tests
pub mod Twice
pub mod Types
pub mod Variant
