pub mod Given
pub mod Kept
pub mod Known
pub mod Listed
pub mod Loose
pub mod Top
