mod Likeness
mod Lists
mod Sayings
