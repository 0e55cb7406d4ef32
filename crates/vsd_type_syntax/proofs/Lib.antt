-- Lemmas that several proofs of this crate share.
pub mod Deciding
pub mod Beginning
pub mod StartBehaving
pub mod Behaving
pub mod Sizes
