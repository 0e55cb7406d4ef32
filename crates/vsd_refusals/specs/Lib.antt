-- What contracts over refusals cite.
pub mod Lines
