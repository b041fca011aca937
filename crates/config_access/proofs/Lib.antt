pub mod ConfigFor
pub mod ReadFor
