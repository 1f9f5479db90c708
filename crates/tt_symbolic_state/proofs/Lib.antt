pub mod Affine
pub mod Freeness
pub mod Reverses
pub mod Values
