pub mod BoundTables
pub mod ClearedRows
pub mod Decided
pub mod DecidedChanges
pub mod DecidedDelete
pub mod DecidedDrops
pub mod DecidedIndexDrops
pub mod DecidedIndexes
pub mod DecidedLooks
pub mod DecidedQueries
pub mod DecidedTables
pub mod DifferentRows
pub mod Endings
mod FewerIndexes
pub mod FewerTables
mod Filters
pub mod Finds
mod Firsts
mod Groups
pub mod Kept
pub mod KeptDelete
pub mod KeptDrops
pub mod KeptIndexes
pub mod KeptInsert
pub mod KeptRows
pub mod KeptStatements
pub mod KeptTables
pub mod KeptUpdate
pub mod Leaves
pub mod Loops
pub mod OtherRows
mod SameValues
pub mod Searches
pub mod Shared
pub mod SharedRows
mod Sorted
