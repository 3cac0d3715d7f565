pub mod Narrower
pub mod Courses
pub mod Points
pub mod Reasons
pub mod Propagation
