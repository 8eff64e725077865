pub mod Canonical
pub mod Expressions
pub mod Kinds
pub mod Words
