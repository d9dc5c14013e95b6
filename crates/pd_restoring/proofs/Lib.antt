pub mod ReadingLemmas
pub mod MakingLemmas
pub mod RestoreLemmas
pub mod BeginLemmas
pub mod EndingLemmas
pub mod MapLemmas
