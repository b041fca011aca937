pub mod Given
pub mod Mapping
pub mod Enabled
pub mod Messages
pub mod Entries
pub mod Changes
