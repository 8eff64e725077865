pub mod Answers
pub mod Fronts
pub mod Stops
pub mod Texts
pub mod Unexpected
