pub mod HeldLemmas
pub mod KeptEntries
mod GatherLemmas
pub mod LostLemmas
mod FirstLemmas
mod FullerLemmas
mod OrderLemmas
