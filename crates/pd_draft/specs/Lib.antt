pub mod Closed
pub mod DraftState
