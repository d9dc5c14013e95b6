pub mod Lines
pub mod Rehearsed
pub mod GenSource
