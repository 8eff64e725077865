pub mod Done
pub mod Stages
