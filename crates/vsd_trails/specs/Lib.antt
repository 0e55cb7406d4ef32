-- What contracts of this crate cite.
pub mod Programs
pub mod Laws
pub mod Words
pub mod RowTrails
pub mod CallTrails
pub mod CastTrails
pub mod UnloadTrails
pub mod Operations
pub mod Logs
pub mod CallPaths
pub mod Attempts
pub mod Following
pub mod CastPaths
