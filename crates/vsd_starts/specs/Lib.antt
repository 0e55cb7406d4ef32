-- What the tests cite.
pub mod Worlds
