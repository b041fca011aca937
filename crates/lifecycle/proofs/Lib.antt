pub mod ResetFor
pub mod StartFor
