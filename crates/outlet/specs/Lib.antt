pub mod Entries
pub mod Memory
pub mod Numbers
pub mod NumberLaws
