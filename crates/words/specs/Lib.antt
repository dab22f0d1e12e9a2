pub mod Lists
pub mod Search
pub mod Words
pub mod BigEndian
pub mod LittleEndian
