pub mod Bounds
pub mod Kept
pub mod Passed
pub mod Ranks
pub mod Sums
