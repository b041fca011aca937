pub mod Crossing
pub mod Recording
pub mod Interface
