pub mod Snaps
pub mod CacheRepaired
pub mod Faults
pub mod Repaired
