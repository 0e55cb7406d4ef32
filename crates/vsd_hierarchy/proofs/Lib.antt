-- Lemmas that several proofs of this crate share.
pub mod CycleLemmas
pub mod DepthLemmas
pub mod EdgeLemmas
pub mod HierarchyLemmas
pub mod PlacedLemmas
