pub mod EntryRows
pub mod Holding
pub mod PoolPairs
pub mod Deriving
pub mod EachEntry
pub mod EachVariable
pub mod Derivations
