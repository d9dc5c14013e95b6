pub mod FillingNumbers
pub mod MapNeeds
pub mod RestoreLemmas
pub mod CopyLemmas
