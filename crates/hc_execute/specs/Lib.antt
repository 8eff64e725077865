pub mod Done
pub mod Running
