-- Lemmas that several proofs of this crate share.
pub mod Unpacking
pub mod Packings
pub mod Powers
