-- Lemmas that several proofs of this crate share.
pub mod Making
pub mod LiveLemmas
pub mod VariableLemmas
pub mod Deciding
pub mod Meant
pub mod AllowedLemmas
pub mod RootLemmas
pub mod RangeLemmas
pub mod Refusing
pub mod NamingLemmas
pub mod Telling
pub mod ObjectLemmas
pub mod FirstReadings
