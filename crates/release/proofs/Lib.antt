pub mod Masking
pub mod Entries
pub mod PendingWords
pub mod Clearing
pub mod WordClear
pub mod Releases
pub mod Beyond
pub mod OwedLaws
mod Among
