pub mod Trails
pub mod Piles
pub mod Counts
pub mod Offers
pub mod Tree
pub mod Runs
