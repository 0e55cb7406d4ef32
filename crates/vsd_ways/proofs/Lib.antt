-- Lemmas that several proofs of this crate share.
pub mod ClassLemmas
pub mod FoundLemmas
pub mod KnownLemmas
pub mod LeadsLemmas
pub mod ListedLaws
pub mod MarksLemmas
pub mod OrderLemmas
pub mod OwnersLemmas
pub mod SettledLemmas
pub mod TableLemmas
pub mod WaysLemmas
