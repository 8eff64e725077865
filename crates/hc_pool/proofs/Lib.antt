pub mod Finds
pub mod Registered
pub mod Turns
