-- Lemmas that several proofs of this crate share.
pub mod Deciding
pub mod Told
pub mod Keeping
pub mod Terms
pub mod Widening
pub mod CountingLemmas
