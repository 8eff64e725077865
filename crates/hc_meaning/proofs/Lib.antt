mod EachElement
pub mod Language
mod Loops
mod OneRun
pub mod Runs
pub mod SerialRun
mod Table
mod Worked
