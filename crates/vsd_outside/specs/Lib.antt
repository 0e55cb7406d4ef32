-- What contracts of this crate cite.
pub mod Faults
pub mod Pieces
pub mod Memory
pub mod Reading
