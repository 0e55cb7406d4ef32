-- What contracts of this crate cite.
pub mod Methods
pub mod Productions
pub mod Errors
pub mod Answers
pub mod Formed
pub mod Texts
pub mod Named
pub mod Counting
