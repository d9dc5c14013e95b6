pub mod SuperLemmas
pub mod SnapLemmas
pub mod CacheLemmas
pub mod SeenLemmas
pub mod SeenShapes
