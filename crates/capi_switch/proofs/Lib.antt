pub mod HostHistory
pub mod Refused
pub mod BytesExact
pub mod Interface
pub mod HostStep
pub mod CrossingFor
