-- Lemmas that several proofs of this crate share.
pub mod Arguments
pub mod Below
pub mod Bits
pub mod Completeness
pub mod Heads
pub mod Improving
pub mod Inheriting
pub mod Least
pub mod Moving
pub mod Orderly
pub mod Rules
pub mod Spreading
pub mod Sweeping
pub mod Transitivity
