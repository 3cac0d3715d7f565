pub mod Places
pub mod Growing
pub mod Answering
pub mod Ends
pub mod Entries
pub mod Apart
pub mod PrefixPlaces
pub mod Counting
