pub mod CountLemmas
pub mod OverflowLeftLemmas
pub mod MapLemmas
pub mod StepLemmas
