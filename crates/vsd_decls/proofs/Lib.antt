-- Lemmas that several proofs of this crate share.
pub mod Deciding
pub mod Behaving
pub mod Answering
pub mod Quiet
pub mod WrittenTerms
pub mod ClassHeads
pub mod Yields
pub mod Members
pub mod WellFormed
