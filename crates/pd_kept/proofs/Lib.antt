pub mod TellingLemmas
pub mod WeighingLemmas
pub mod StatesLemmas
pub mod BoundLemmas
pub mod LackingLemmas
pub mod LatestLemmas
mod CacheLemmas
