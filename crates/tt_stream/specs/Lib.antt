pub mod Reads
pub mod Streams
pub mod Representation
