pub mod GatherLemmas
pub mod WayLemmas
pub mod RangeLemmas
pub mod AscendLemmas
pub mod SavingLemmas
