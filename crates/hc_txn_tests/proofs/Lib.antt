pub mod Lanes
pub mod Others
