pub mod Plan
pub mod Copied
pub mod Room
