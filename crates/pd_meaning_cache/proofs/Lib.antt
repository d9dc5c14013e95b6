pub mod SkipLemmas
pub mod SidesLemmas
pub mod SoundCache
pub mod AddedLemmas
