pub mod Keys
pub mod Order
pub mod Laws
pub mod Reading
