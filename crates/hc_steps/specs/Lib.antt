pub mod Hints
pub mod Own
pub mod Same
pub mod Seated
