pub mod OverlaidLemmas
pub mod UnchangedLemmas
pub mod PlanLemmas
pub mod PlacesLemmas
pub mod MarkedLemmas
pub mod OnceLemmas
