-- What contracts of this crate cite.
pub mod Looks
pub mod Tells
pub mod Begun
