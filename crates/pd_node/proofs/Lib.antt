pub mod Written
pub mod Begun
pub mod Shape
pub mod FromItems
