pub mod Steps
pub mod Magic
