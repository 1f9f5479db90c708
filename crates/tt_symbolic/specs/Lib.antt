pub mod Sound
pub mod Steps
pub mod Kept
pub mod Representation
