pub mod BitLemmas
pub mod TableLemmas
pub mod AnyLemmas
pub mod LeafNotes
pub mod StartLemmas
pub mod WalkLemmas
pub mod Weights
