pub mod PartLaws
pub mod AppendLaws
