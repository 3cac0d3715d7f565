pub mod Entries
pub mod Splits
