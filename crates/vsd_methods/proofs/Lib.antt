-- Lemmas that several proofs of this crate share.
pub mod GivenLaws
pub mod NameLaws
pub mod SearchLaws
pub mod SignatureLaws
