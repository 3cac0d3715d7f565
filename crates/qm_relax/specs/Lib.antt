pub mod Failing
pub mod Answers
pub mod Scenarios
pub mod AnswerSteps
