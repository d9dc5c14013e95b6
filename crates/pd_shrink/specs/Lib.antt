pub mod Gathered
pub mod Making
pub mod Moves
pub mod Failing
pub mod Kept
pub mod Planned
