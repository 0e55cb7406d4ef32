-- What contracts of this crate cite.
pub mod Words
pub mod Input
pub mod Place
pub mod Grammar
pub mod Productions
pub mod Skipping
pub mod Laws
pub mod Loops
