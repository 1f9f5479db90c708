pub mod Records
pub mod LawProofs
pub mod MemoryLemmas
