-- What contracts of this crate cite.
pub mod Texts
pub mod Refusals
pub mod Grammar
pub mod Declarations
