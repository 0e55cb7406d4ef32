-- What contracts of this crate cite.
pub mod Packing
pub mod Handle
pub mod CellWord
pub mod HandleWord
pub mod CastWord
pub mod Hash
