-- What contracts of this crate cite.
pub mod Checked
pub mod Conditions
pub mod Earliest
pub mod Refusals
pub mod Value
