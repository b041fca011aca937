-- Laws: soundness, its tests, a start. Assumes nothing.
pub mod SoundLaws
pub mod SoundTests
pub mod StartLaws
