pub mod Finders
pub mod Found
pub mod FoundSubjects
pub mod Representation
