pub mod ReadLaws
pub mod StoreRules
