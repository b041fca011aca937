pub mod Sweeps
pub mod Parts
