pub mod KeptLaws
pub mod RewriteLaws
pub mod CompactionLaws
