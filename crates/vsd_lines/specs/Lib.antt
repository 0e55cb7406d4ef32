-- What contracts over the lines of answers cite.
pub mod Lines
pub mod Moving
pub mod Names
pub mod Said
