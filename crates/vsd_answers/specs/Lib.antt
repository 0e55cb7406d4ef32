-- What contracts over the answers of scripts cite.
pub mod Answers
pub mod Held
pub mod Numbering
