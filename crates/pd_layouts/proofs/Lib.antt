pub mod Rows
pub mod NodeRules
