-- The lemmas.
pub mod PartsMade
pub mod Leaving
pub mod Purging
pub mod Owning
