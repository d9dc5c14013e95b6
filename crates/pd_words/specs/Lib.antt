pub mod Items
pub mod Table
pub mod Words
