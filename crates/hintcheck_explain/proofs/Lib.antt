pub mod NeedLemmas
pub mod Written
