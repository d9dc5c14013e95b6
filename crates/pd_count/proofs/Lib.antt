pub mod GroupLemmas
pub mod FormLemmas
pub mod EntryLemmas
pub mod PlaceLemmas
pub mod CountLemmas
mod WaitingLemmas
