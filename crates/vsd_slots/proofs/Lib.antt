-- Lemmas that several proofs of this crate share.
pub mod ColumnLaws
pub mod DecidingLaws
pub mod EntryLaws
pub mod FillLaws
pub mod InheritedLaws
pub mod KeptLaws
pub mod MarkLaws
pub mod NamedLaws
pub mod NumberLaws
pub mod OwnLaws
pub mod RaggedLaws
pub mod SharedLaws
pub mod SlotLaws
