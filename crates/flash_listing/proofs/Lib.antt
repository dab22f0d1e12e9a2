pub mod NoMarksLaws
pub mod MarkLaws
pub mod PlaceLaws
pub mod NextLaws
pub mod ListedLaws
pub mod HolderLaws
pub mod LeftLaws
