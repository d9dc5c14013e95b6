pub mod CacheLemmas
pub mod EraLemmas
