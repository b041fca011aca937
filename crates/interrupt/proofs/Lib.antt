pub mod EventFor
pub mod LineFor
pub mod WithdrawFor
