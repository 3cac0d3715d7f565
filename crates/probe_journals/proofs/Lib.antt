pub mod FirstQuestions
pub mod SetBoxes
pub mod Chains
pub mod Completed
