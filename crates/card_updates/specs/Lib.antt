pub mod Parts
pub mod Delete
pub mod Write
pub mod Refusals
pub mod Examples
pub mod Theorems
pub mod Flags
