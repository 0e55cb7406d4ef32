-- What contracts of this crate cite.
pub mod Cycles
pub mod Kinds
