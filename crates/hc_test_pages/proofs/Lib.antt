pub mod SmallPages
