-- Laws: capability list, places of structures, shape. Assumes nothing.
pub mod CapabilityLaws
pub mod PlaceLaws
pub mod ShapeLaws
pub mod FitLaws
pub mod AlignedLaws
