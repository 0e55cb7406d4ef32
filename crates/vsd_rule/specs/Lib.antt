-- What contracts of this crate cite.
pub mod World
pub mod Sizes
pub mod Layout
pub mod Lists
pub mod Zones
pub mod Seats
pub mod Handles
pub mod Rows
pub mod Casts
pub mod Rule
pub mod Moves
pub mod RowSteps
pub mod Facts
pub mod Evidence
pub mod RowFacts
pub mod Opening
pub mod CastSteps
