pub mod Growing
pub mod Putting
pub mod Checking
pub mod Proposing
pub mod SameLog
pub mod Ready
pub mod Ordinals
