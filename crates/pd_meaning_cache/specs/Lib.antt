pub mod Rows
pub mod SkippedWords
pub mod Sides
pub mod OriginSet
