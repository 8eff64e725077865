pub mod ByteStrings
mod Characters
pub mod Doubled
pub mod Ends
pub mod HexDigits
