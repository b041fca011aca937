pub mod PlayLaws
pub mod Refused
pub mod PerformLaws
