pub mod Interface
pub mod Structs
pub mod Copying
