pub mod CacheLine
pub mod EraLine
pub mod Runs
