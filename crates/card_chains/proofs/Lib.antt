pub mod FirstLaws
pub mod MarkLaws
pub mod PassLaws
pub mod SetLaws
pub mod StepLaws
pub mod WalkLaws
