pub mod Joined
pub mod Looks
pub mod Noting
pub mod Seeks
pub mod Shown
