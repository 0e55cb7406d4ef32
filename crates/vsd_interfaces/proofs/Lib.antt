-- Lemmas that several proofs of this crate share.
pub mod DepthLaws
pub mod FirstLaws
pub mod NumberLaws
pub mod PlaceLaws
pub mod RankLaws
pub mod ReachLaws
pub mod ReadLaws
pub mod RowLaws
pub mod UniqueLaws
