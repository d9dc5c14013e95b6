pub mod LevelLemmas
pub mod RaiseLemmas
pub mod KnownLemmas
pub mod PartLemmas
pub mod SetLemmas
pub mod SoundEra
pub mod WordLemmas
