pub mod Reader
pub mod ThinLine
pub mod ThinState
pub mod Words
pub mod ThinLaws
