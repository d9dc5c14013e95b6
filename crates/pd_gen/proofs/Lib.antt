pub mod Spelled
pub mod Putting
pub mod GeneratedShape
pub mod Numbers
pub mod Rehearsing
