pub mod RestoreFor
pub mod SaveFor
