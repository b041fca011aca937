pub mod MarkLaws
pub mod CardLaws
