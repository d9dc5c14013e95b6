pub mod Marks
pub mod Walk
pub mod Format
pub mod Audit
pub mod Notes
