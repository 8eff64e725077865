pub mod Fifth
pub mod HandPages
mod Holding
