pub mod Coded
pub mod Laws
pub mod Pieces
pub mod Seen
pub mod Tails
