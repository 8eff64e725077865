-- Each event keeps the log and the transactions sound: a law for each, by the facts of its event.
pub mod Begin
pub mod Check
pub mod Decide
pub mod Draw
pub mod End
pub mod Lost
pub mod Noted
pub mod Propose
pub mod Put
pub mod Read
pub mod Refused
pub mod Same
pub mod Unput
