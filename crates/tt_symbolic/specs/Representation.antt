-- What only private contracts cite.
pub mod Areas
pub mod Changing
pub mod Keeping
pub mod Leading
pub mod Plain
pub mod Refined
