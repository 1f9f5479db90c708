pub mod Standard
pub mod Post
pub mod Names
pub mod Representation
