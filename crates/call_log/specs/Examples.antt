pub mod Parts
pub mod Formats
pub mod States
pub mod Tries
pub mod Cuts
pub mod Hosts
pub mod Recordings
