pub mod FileCall
pub mod FileDevice
pub mod Streams
pub mod Run
