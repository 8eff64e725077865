pub mod Tables
pub mod Cells
pub mod Databases
pub mod Reading
pub mod Laws
pub mod Paths
pub mod Trees
pub mod Binding
