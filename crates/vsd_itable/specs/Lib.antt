-- What contracts of this crate cite.
pub mod Matching
pub mod Bodies
pub mod Selection
pub mod Value
pub mod BitList
pub mod Tables
pub mod Worlds
pub mod Refusals
pub mod Places
pub mod Numbering
pub mod Filling
pub mod Laws
