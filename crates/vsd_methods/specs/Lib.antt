-- What contracts of this crate cite.
pub mod Arguments
pub mod Firsts
pub mod Givens
pub mod Methods
