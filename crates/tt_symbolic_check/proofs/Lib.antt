pub mod Agreeing
pub mod Coverings
pub mod Lawful
pub mod Listings
pub mod Parts
pub mod Walkings
