pub mod Restored
pub mod Copied
