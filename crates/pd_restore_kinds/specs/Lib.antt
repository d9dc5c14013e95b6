pub mod Caches
pub mod CacheReading
pub mod CacheRoots
pub mod EraReading
pub mod EraRoots
