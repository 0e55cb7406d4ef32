-- The definitions that the contracts cite.
pub mod Parts
pub mod CellLooks
pub mod Shown
