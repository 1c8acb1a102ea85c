pub mod Partials
pub mod Found
pub mod Ends
pub mod Right
