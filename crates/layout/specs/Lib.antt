pub mod Places
pub mod Shapes
pub mod Checks
pub mod Walk
