pub mod Gcd
pub mod Signs
pub mod Lowest
pub mod Arithmetic
pub mod Order
pub mod Checked
