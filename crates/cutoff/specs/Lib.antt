pub mod Theta
pub mod Cutoffs
pub mod Laws
pub mod Keeping
