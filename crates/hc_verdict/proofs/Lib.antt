mod Histories
mod Names
mod OneMore
mod Setups
