-- Bytes are the script of one list of statements at most.
pub mod Numbers
pub mod Scripts
pub mod Spans
pub mod Statements
