pub mod ByteWords
pub mod Entries
pub mod KeyOrder
pub mod Lookups
pub mod NoForm
pub mod OneWord
pub mod Places
pub mod Quarters
