-- Lemmas that several proofs of this crate share.
pub mod BodyLaws
pub mod MatchLaws
pub mod FoundLaws
pub mod FillLaws
pub mod BitLaws
pub mod SelectLaws
pub mod ChainLaws
pub mod AbstractLaws
pub mod UpwardLaws
pub mod ImplementLaws
pub mod TableLaws
