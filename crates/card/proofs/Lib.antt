pub mod CallsFor
pub mod SettleFor
pub mod SoundFor
pub mod WireOnly
