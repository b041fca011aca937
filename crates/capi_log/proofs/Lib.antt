pub mod CrossingFor
pub mod RecordingFor
pub mod BytesExact
pub mod Refused
pub mod WideRecords
pub mod Interface
pub mod BetweenFor
pub mod TurnFor
