pub mod Cuts
pub mod Fronts
pub mod Laws
pub mod Pairs
pub mod Turns
