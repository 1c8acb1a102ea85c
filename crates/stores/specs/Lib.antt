pub mod Numbers
pub mod Stores
pub mod Walks
pub mod Joins
pub mod JoinLaws
