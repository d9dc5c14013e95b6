pub mod ReaderLemmas
pub mod Printing
