pub mod Overlap
pub mod ByteOrder
pub mod Ends
pub mod Normal
pub mod Searched
pub mod Unique
pub mod United
pub mod Merged
