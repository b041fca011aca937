pub mod Crossing
pub mod Hosts
pub mod Interface
pub mod HostClaims
pub mod Numbers
