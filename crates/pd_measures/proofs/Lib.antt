pub mod MeasureLemmas
pub mod ListLemmas
pub mod NodeLemmas
pub mod SoundLemmas
