pub mod Lengths
pub mod Fields
pub mod Claims
pub mod Interface
