-- Lemmas that several proofs of this crate share.
pub mod Protection
pub mod CastRows
pub mod Resting
pub mod Agreeing
pub mod Owning
pub mod Counts
pub mod Loading
pub mod NewCallers
