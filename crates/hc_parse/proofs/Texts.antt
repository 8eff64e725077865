pub mod Digits
pub mod Quotes
pub mod SoundTokens
