-- Laws: what a history says of registers and waiting bits, and the law of one call. Assumes nothing.
pub mod SinceLaws
pub mod Machine
pub mod HistoryBytes
pub mod HistoryRegisters
pub mod HistoryShape
pub mod LatestLaws
pub mod HistoryCalls
pub mod HistoryReset
pub mod HistoryLaw
