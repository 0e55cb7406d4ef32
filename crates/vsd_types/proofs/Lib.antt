-- Lemmas that several proofs of this crate share.
pub mod AddLemmas
pub mod BaseLemmas
pub mod Declared
pub mod EntryLemmas
pub mod LawfulLemmas
pub mod NumberLemmas
pub mod WalkLemmas
