-- How the search for a number keeps what is told of it.
pub mod Trials
