pub mod Moves
pub mod Backs
pub mod Counts
pub mod Models
