pub mod Examples
pub mod Fitting
pub mod Forms
pub mod Language
pub mod Laws
pub mod Rows
pub mod Statements
