pub mod ByHand
pub mod Four
pub mod Holding
