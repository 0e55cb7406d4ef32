-- Lemmas that several proofs of this crate share.
pub mod Induction
pub mod KeyLemmas
pub mod PlaceLemmas
pub mod SizeLemmas
pub mod SubstitutionLaws
pub mod SubstitutionLemmas
pub mod TermLemmas
pub mod TextLemmas
