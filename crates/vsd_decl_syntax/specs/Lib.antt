-- What contracts of this crate cite.
pub mod Parameters
pub mod Signatures
pub mod Overrides
pub mod Methods
pub mod Members
pub mod Classes
pub mod Causes
