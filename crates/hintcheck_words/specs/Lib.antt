pub mod CommandLine
pub mod HexWords
pub mod Representation
pub mod Requests
