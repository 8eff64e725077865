pub mod Claiming
pub mod Laws
pub mod Registering
