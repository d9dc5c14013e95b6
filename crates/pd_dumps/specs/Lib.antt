pub mod EraLines
pub mod CacheDump
pub mod CacheLines
pub mod EraDump
pub mod SinceLines
