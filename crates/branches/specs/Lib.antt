pub mod Spelled
pub mod Laying
