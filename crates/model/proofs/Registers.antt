-- Laws: writes, fixed bits, bits stored as 0, table and BAR. Assumes nothing.
pub mod WriteLaws
pub mod FixedLaws
pub mod ZeroLaws
pub mod TableLaws
pub mod BarLaws
pub mod EntryLaws
pub mod AccessBounds
