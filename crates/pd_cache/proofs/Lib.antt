pub mod MeetLemmas
pub mod WholeLemmas
pub mod WordLemmas
