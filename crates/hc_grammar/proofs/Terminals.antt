pub mod Blobs
pub mod Lists
pub mod Numbers
pub mod Quotes
pub mod Values
