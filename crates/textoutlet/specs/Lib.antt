pub mod Counting
pub mod TextHeld
pub mod TextLaws
