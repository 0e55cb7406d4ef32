-- What contracts of this crate cite.
pub mod Found
pub mod Known
pub mod Leads
pub mod Listed
pub mod Order
pub mod Ways
