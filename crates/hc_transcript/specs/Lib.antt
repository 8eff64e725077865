pub mod Words
pub mod Literals
pub mod Fields
pub mod Table
pub mod Parts
pub mod Text
pub mod Outputs
pub mod Laws
