pub mod TextLemmas
pub mod ThinNextLemmas
pub mod StateLemmas
pub mod WordLemmas
pub mod ValueLemmas
pub mod LawLemmas
pub mod PastLemmas
