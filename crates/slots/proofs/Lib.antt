pub mod AnswerLaws
pub mod HeaderLaws
pub mod SearchLaws
pub mod ClaimLaws
