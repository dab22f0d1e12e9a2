pub mod SlotUsable
pub mod SlotHeaders
pub mod SlotAnswers
