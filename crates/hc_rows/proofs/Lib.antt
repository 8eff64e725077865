pub mod RowSizes
pub mod Steps
