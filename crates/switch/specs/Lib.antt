pub mod Switches
pub mod Calls
pub mod History
pub mod Claims
pub mod Joined
pub mod Outcomes
pub mod Examples
