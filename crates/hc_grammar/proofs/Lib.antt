pub mod Again
pub mod Expressions
pub mod Faults
pub mod Meanings
pub mod Places
pub mod Statements
pub mod Terminals
