-- Lemmas that several proofs of this crate share.
pub mod Texts
pub mod Answering
pub mod Runs
