pub mod Answers
pub mod Stacking
pub mod Taking
pub mod Representation
