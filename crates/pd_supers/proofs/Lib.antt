pub mod CacheWritten
pub mod EraWritten
pub mod ThinWritten
