pub mod Answers
pub mod Conjuncts
pub mod First
pub mod Operators
pub mod Places
pub mod Scopes
pub mod Settings
pub mod Sorted
