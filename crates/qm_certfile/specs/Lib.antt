pub mod Lines
pub mod Styles
pub mod TreeLines
pub mod CertificateLines
pub mod WellFormed
pub mod Passes
pub mod LineSteps
pub mod Numbers
