pub mod PostLemmas
pub mod StringLemmas
pub mod TextLemmas
pub mod CountLemmas
