pub mod Blank
pub mod HighBits
pub mod Found
pub mod EqualRun
