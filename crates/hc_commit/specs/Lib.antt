pub mod Entries
pub mod Checks
pub mod Stages
pub mod Giving
pub mod Commit
