pub mod Examples
pub mod Keys
pub mod Laws
pub mod Merging
pub mod Order
pub mod Prepared
pub mod Ranges
