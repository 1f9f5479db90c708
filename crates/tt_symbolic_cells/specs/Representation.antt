-- What only private contracts cite.
pub mod Bounds
