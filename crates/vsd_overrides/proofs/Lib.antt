-- Lemmas that several proofs of this crate share.
pub mod KeyLemmas
pub mod KnownLemmas
pub mod MeaningLemmas
pub mod NumberedLemmas
pub mod SignatureLemmas
