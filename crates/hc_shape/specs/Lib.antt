pub mod Changes
pub mod Halves
pub mod Laws
pub mod Leaves
pub mod Plans
pub mod Shape
pub mod Versions
