-- Lemmas that several proofs of this crate share.
pub mod ChainLemmas
pub mod Forms
pub mod LiftLaws
pub mod LiftLemmas
pub mod PlaceLemmas
