-- What the contracts of this crate say, for those of the crates above too.
pub mod Causes
pub mod Bytes
pub mod Memory
pub mod Whole
