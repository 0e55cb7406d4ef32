-- What contracts of this crate cite.
pub mod Equality
pub mod Keys
pub mod Names
pub mod Size
pub mod Substitution
pub mod Text
