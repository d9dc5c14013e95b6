pub mod LaidOut
pub mod Once
pub mod Shared
pub mod Clean
