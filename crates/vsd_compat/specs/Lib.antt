-- What contracts of this crate cite.
pub mod Compatibility
pub mod Generics
pub mod Matrices
pub mod Moving
pub mod Settling
pub mod Variances
pub mod Rules
pub mod Improving
