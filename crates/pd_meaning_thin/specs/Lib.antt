pub mod Packed
pub mod Runs
pub mod Pieces
pub mod Marks
pub mod Walk
pub mod Given
