pub mod Arrays
pub mod SavedCache
pub mod Places
pub mod Sound
pub mod Fuller
