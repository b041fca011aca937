pub mod SweepFor
pub mod ReadyFit
pub mod SoundParts
pub mod CleanLaws
