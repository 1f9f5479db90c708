pub mod Needs
pub mod Representation
