-- What contracts of this crate cite.
pub mod Interfaces
pub mod Lineage
pub mod Places
pub mod Ranks
pub mod Reached
pub mod Tables
