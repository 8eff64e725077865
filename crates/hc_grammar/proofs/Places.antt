pub mod Asked
pub mod Nested
