pub mod Causes
pub mod Streams
pub mod TopCall
pub mod Words
