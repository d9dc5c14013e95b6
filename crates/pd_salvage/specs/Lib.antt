pub mod Way
pub mod Range
pub mod SavedShape
pub mod Saved
pub mod Cursor
pub mod Details
pub mod Gather
pub mod Saving
