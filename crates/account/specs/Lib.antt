pub mod Account
pub mod Calls
pub mod Theorem
pub mod Replies
pub mod Piles
pub mod Cases
