pub mod BuildingLemmas
pub mod TakesLemmas
pub mod RowLemmas
pub mod ArrayLemmas
pub mod PartLemmas
pub mod TreeLemmas
pub mod UpperLemmas
pub mod OrderLemmas
