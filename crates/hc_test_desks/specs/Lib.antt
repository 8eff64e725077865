pub mod Guarded
pub mod Putting
pub mod Turns
pub mod Meddled
