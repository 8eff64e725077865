pub mod Lists
pub mod Quotes
