-- What contracts of this crate cite.
pub mod Offsets
pub mod Consistent
pub mod StepKind
pub mod HandleKinds
pub mod EpochKinds
pub mod RowKinds
pub mod CellKinds
pub mod BucketKinds
pub mod LimboKinds
pub mod Seating
pub mod Stepping
pub mod CastKinds
pub mod Opened
