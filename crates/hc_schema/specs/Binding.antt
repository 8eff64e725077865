-- Binding: what the names of a statement mean, and which values fit together. Each file has one part of the rules.
pub mod Faults
pub mod Names
pub mod Classes
pub mod Functions
pub mod Writing
pub mod Scopes
pub mod Expressions
pub mod Changes
pub mod Queries
pub mod Statements
pub mod Spelling
pub mod Laws
