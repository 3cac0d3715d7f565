pub mod Appended
pub mod Drawn
pub mod Fits
pub mod Short
pub mod Made
pub mod WorkedText
