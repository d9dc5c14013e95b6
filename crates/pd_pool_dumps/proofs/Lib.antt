pub mod RunLemmas
pub mod LeafTextLemmas
pub mod ShapeTextLemmas
pub mod SharedTextLemmas
