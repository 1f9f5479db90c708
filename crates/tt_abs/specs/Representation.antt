-- How the code keeps what the definitions speak of: private contracts cite these, and no public one
-- does.
pub mod Codes
pub mod Computes
pub mod EntryCoverage
pub mod EntryFacts
pub mod Followed
pub mod JoinLaws
pub mod Steps
pub mod Stored
pub mod Taken
