pub mod Meeting
pub mod Whole
pub mod Words
