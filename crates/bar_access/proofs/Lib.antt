pub mod BarFor
pub mod BarWriteFor
pub mod EntryFor
pub mod WriteFor
