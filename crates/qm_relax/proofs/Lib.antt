pub mod NamedEntries
pub mod EndsOfRuns
pub mod ClosingEnds
pub mod Told
pub mod FixedRanges
pub mod FixedBoxes
pub mod LastPlaces
pub mod ScenarioDepths
