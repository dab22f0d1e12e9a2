pub mod PartLaws
pub mod UsableLaws
pub mod OpenLaws
pub mod SearchLaws
