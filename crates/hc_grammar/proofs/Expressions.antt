pub mod Climbing
pub mod Sequences
