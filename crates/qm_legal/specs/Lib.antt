pub mod Queries
pub mod SearchSteps
pub mod JournalSteps
