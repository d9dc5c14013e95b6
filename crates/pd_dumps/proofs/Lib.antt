pub mod CacheMeaningLemmas
pub mod EraLemmas
pub mod SinceLemmas
pub mod PartLemmas
