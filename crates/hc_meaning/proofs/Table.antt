-- What statements do to the table, and that its ids ascend.
pub mod Differences
pub mod Integers
pub mod RowCounts
pub mod Rows
pub mod Runs
