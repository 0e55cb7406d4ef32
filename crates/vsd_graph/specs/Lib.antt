-- What contracts of this crate cite.
pub mod Graph
pub mod Marks
pub mod Seen
