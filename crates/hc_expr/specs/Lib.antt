pub mod Laws
pub mod Like
pub mod Logic
pub mod Arithmetic
pub mod Values
pub mod Operands
pub mod Search
