pub mod PartSteps
pub mod Places
pub mod BoxPlaces
