pub mod Laws
pub mod Looking
pub mod Noted
pub mod OneMachine
pub mod Seeking
pub mod Telling
