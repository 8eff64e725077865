pub mod Joined
pub mod Parts
pub mod Plans
pub mod Sizes
