pub mod WholeLemmas
pub mod SetLemmas
