pub mod Linear
pub mod Streams
pub mod Sealed
