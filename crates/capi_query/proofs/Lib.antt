pub mod Fits
pub mod FirstPacket
pub mod Walks
pub mod Interface
pub mod LengthsFor
pub mod FieldsFor
pub mod CallPackets
