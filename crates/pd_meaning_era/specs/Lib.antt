pub mod Eras
pub mod Notes
pub mod EraWords
pub mod Parts
