pub mod Contrary
