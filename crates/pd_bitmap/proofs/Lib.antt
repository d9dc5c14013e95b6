pub mod Filled
pub mod Placed
