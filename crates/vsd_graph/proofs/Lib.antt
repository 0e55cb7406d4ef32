-- Lemmas that several proofs of this crate share.
pub mod LevelLemmas
pub mod MarkLemmas
pub mod SeenLemmas
