pub mod Covered
pub mod SameKeys
