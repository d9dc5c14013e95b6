pub mod ThinText
pub mod LeafText
pub mod ThinDump
pub mod SharedLines
