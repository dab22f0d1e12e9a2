pub mod PutLaws
pub mod BlockLaws
pub mod ChainLaws
pub mod FreeLaws
pub mod UnusedLaws
pub mod EntryLaws
