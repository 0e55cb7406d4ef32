-- Lemmas that several proofs of this crate share.
pub mod Consistent
pub mod Kept
pub mod Powers
pub mod HandleWords
pub mod EpochWords
pub mod RowWords
pub mod CellWords
pub mod BucketWords
pub mod LimboWords
pub mod Seats
pub mod Laid
pub mod CastWords
pub mod Opened
