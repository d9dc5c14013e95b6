pub mod Restored
pub mod Reading
pub mod Made
