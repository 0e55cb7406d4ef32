-- Lemmas that several proofs of this crate share.
pub mod Endings
pub mod Lexing
pub mod Declaring
pub mod Checking
pub mod Scripting
pub mod Closing
pub mod OneRefusal
pub mod Building
pub mod Answerable
pub mod Rooting
pub mod Agreeing
pub mod Noting
pub mod Readiness
pub mod Naming
pub mod Counting
pub mod Rendered
