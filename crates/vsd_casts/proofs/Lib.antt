-- Lemmas that several proofs of this crate share.
pub mod CastsMade
pub mod Walked
pub mod Endings
