-- Lemmas that several proofs of this crate share.
pub mod Makes
pub mod StepsMade
pub mod Filling
pub mod Sweeping
pub mod Protecting
pub mod Leaving
pub mod Searching
