pub mod Building
pub mod Meanings
pub mod Names
pub mod Values
