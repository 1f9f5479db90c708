pub mod Reversed
pub mod EntryEdits
pub mod EntriesInTurn
pub mod EntryMerge
pub mod SameEntries
pub mod TargetLemmas
pub mod RefusalLemmas
