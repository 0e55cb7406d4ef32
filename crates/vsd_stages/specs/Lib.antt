-- What contracts over the stages of a text cite.
pub mod Endings
pub mod Answered
pub mod Stages
pub mod Stopping
pub mod Settling
pub mod Rooted
pub mod Noted
pub mod Rendering
pub mod Named
