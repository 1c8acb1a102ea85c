pub mod Parity
pub mod Rows
pub mod Tallies
pub mod Checking
pub mod Places
pub mod Lists
pub mod Opened
