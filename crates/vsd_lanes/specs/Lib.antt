-- What contracts of this crate cite.
pub mod Meaning
pub mod Variables
pub mod Types
pub mod Setting
pub mod Names
pub mod Steps
pub mod Productions
pub mod Laws
pub mod Allowed
pub mod Naming
pub mod Objects
pub mod FirstReading
