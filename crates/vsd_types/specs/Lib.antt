-- What contracts of this crate cite.
pub mod ClosedList
pub mod Closing
pub mod Entries
pub mod Numbers
pub mod TypeList
pub mod Types
