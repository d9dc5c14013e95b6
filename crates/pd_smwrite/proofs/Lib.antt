pub mod FreeLemmas
pub mod MapLemmas
pub mod OverflowLemmas
pub mod OwnLemmas
