pub mod Devices
pub mod Gathered
pub mod SharedGrowth
pub mod Told
pub mod SharedGathered
pub mod Counts
