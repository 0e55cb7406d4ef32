-- What contracts of this crate cite.
pub mod Command
pub mod Refusals
pub mod Answers
pub mod Written
pub mod Outcomes
