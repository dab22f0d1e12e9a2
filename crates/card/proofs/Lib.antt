pub mod AnswerLaws
pub mod ReadLaws
pub mod DeleteLaws
pub mod WriteLaws
