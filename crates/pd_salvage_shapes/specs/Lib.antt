pub mod Note
pub mod Once
pub mod Pieces
pub mod SeenShape
pub mod Tops
pub mod Visiting
