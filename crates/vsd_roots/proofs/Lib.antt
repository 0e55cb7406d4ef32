-- Lemmas that several proofs of this crate share.
pub mod AbstractLemmas
pub mod BodyLaws
pub mod LayerLemmas
pub mod LinkLemmas
pub mod MatchLemmas
pub mod RootLaws
pub mod RootLemmas
pub mod ScanLemmas
pub mod TableLemmas
pub mod VarianceLaws
pub mod VarianceLemmas
