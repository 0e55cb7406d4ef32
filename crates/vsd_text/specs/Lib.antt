-- What contracts of this crate cite.
pub mod Bytes
pub mod Outcome
pub mod Spelling
pub mod Tokens
