pub mod First
pub mod Dead
pub mod Goals
