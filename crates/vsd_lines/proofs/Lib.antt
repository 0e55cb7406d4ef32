-- The lemmas of this crate.
pub mod AfterErrors
pub mod Agreeing
pub mod Moves
pub mod Once
pub mod Saying
pub mod Lanes
