pub mod Digits
pub mod Numbers
pub mod Reading
pub mod Steps
pub mod Decimals
pub mod DecimalSteps
