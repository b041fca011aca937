-- Laws: what the definitions say of each call. Assumes nothing.
pub mod CallLaws
pub mod AnswerLaws
pub mod OutcomeLaws
pub mod Effects
pub mod SizeLaws
pub mod AccessCalls
pub mod SettleCalls
pub mod WireCalls
pub mod EventCalls
pub mod WithdrawCalls
pub mod SaveCalls
pub mod StartCalls
pub mod RestoreCalls
pub mod PlayLaws
pub mod WideCalls
