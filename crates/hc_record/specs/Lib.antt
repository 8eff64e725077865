pub mod Varint
pub mod Record
pub mod Reading
pub mod Laws
pub mod Places
