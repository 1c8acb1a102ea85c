pub mod Keeps
pub mod Tables
pub mod Faults
pub mod Spelt
