-- Lemmas that several proofs of this crate share.
pub mod EarliestLaws
pub mod PassLaws
pub mod SettledLaws
pub mod TableLemmas
