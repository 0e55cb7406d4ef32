-- Lemmas that several proofs of this crate share.
pub mod CastStepsMade
pub mod Looking
pub mod Writing
pub mod Showing
pub mod Sizes
