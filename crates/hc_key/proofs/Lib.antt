pub mod Bytes
pub mod Contents
pub mod Lengths
pub mod Order
pub mod Parts
pub mod Prefix
pub mod Whole
