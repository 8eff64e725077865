-- No other run of the setup script is right, and no other output.
pub mod OnlyOutput
pub mod OnlyRun
pub mod Peeled
pub mod Steps
pub mod Unique
pub mod Walk
