-- What contracts of this crate cite.
pub mod Columns
pub mod Deciding
pub mod Entries
pub mod Implementation
pub mod Kept
pub mod Marks
pub mod Missing
pub mod Named
pub mod Ragged
pub mod Refusals
pub mod Rows
pub mod Slots
pub mod Texts
