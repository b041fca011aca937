pub mod Trials
pub mod Ports
pub mod Upstream
