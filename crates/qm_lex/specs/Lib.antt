pub mod Bytes
pub mod Numbers
pub mod Names
pub mod Spelling
pub mod Texts
pub mod Places
pub mod Reading
pub mod Marks
