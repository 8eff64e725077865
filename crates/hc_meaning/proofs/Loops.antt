-- What the loops of the reference model have found so far.
pub mod AllCuts
pub mod Cuts
pub mod Follows
pub mod Judged
pub mod OneHistory
pub mod OneMore
pub mod Rising
pub mod Setups
