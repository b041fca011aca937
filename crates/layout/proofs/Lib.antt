pub mod Walks
pub mod Places
pub mod ShapeFound
pub mod Checks
