-- Lemmas that several proofs of this crate share.
pub mod Few
pub mod Beginning
pub mod Deciding
pub mod Behaving
