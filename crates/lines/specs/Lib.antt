pub mod Lines
pub mod Sinks
