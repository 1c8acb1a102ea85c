pub mod Replies
pub mod Chains
pub mod Walks
pub mod Joining
pub mod Bytes
