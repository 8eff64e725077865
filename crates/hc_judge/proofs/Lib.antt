mod Chains
mod Circles
mod CutWalks
mod Found
mod Pairings
mod Rising
mod WalkLemmas
mod Walks
