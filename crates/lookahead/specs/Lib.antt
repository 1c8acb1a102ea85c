pub mod Trials
pub mod Nodes
pub mod Laws
pub mod Answers
pub mod Cases
