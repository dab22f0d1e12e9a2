pub mod Usable
pub mod OpenAnswers
pub mod Search
