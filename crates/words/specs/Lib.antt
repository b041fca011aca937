pub mod Lists
pub mod Bits
pub mod Bytes
pub mod Writers
pub mod Lowest
