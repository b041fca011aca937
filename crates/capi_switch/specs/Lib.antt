pub mod Crossing
pub mod Hosts
pub mod Interface
