-- Lemmas that several proofs of this crate share.
pub mod IndexLemmas
pub mod MethodKeys
pub mod RepeatLemmas
pub mod TypeLemmas
