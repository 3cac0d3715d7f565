pub mod Coefficients
pub mod NamedRows
pub mod Steps
pub mod Narrow
pub mod EmptyRanges
pub mod EmptyTests
