-- Laws: waiting bits, sweeps, events, packets. Assumes nothing.
pub mod WaitingLaws
pub mod SweepLaws
pub mod RaisedLaws
pub mod RunningLaws
pub mod EventLaws
pub mod WithdrawLaws
pub mod SettleLaws
pub mod PacketLaws
