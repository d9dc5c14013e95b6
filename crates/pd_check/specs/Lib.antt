pub mod Check
pub mod Arrays
pub mod Known
pub mod Refs
pub mod Counter
