pub mod Lost
pub mod Partners
pub mod Pairs
pub mod Numbers
