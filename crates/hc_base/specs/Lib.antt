pub mod Content
pub mod Entries
pub mod Laws
pub mod Layout
pub mod Lookup
pub mod Words
