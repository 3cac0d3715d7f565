-- What the contracts of this crate say, for those of the crates above too.
pub mod Contents
pub mod Positions
pub mod Lawful
pub mod Enough
pub mod Questions
