mod Ranges
mod Easing
mod Cutting
