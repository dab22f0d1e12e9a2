pub mod RunLaws
pub mod BitReads
pub mod BitWrites
pub mod FirstBits
pub mod LeadingLaws
pub mod HighBitLaws
pub mod PassLaws
pub mod DifferingLaws
