-- What contracts of this crate cite.
pub mod Binding
pub mod OwnRows
pub mod Owned
pub mod Types
