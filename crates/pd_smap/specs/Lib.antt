pub mod Steps
pub mod Overflow
