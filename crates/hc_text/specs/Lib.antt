pub mod Bytes
pub mod Digits
pub mod Laws
pub mod Names
pub mod Quotes
pub mod Utf8
