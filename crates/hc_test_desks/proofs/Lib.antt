pub mod Guards
pub mod Reserved
pub mod Turning
pub mod Meddling
