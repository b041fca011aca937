pub mod Shown
pub mod Bounds
pub mod Parts
