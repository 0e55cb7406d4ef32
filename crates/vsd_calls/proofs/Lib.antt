-- The lemmas.
pub mod PartsMade
pub mod Stubbing
pub mod Walks
pub mod CallsMade
pub mod Logging
pub mod Showing
