pub mod Known
pub mod KnownPool
pub mod Premises
pub mod Unused
