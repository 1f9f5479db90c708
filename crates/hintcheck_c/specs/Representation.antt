-- How the code keeps what the definitions speak of: private contracts cite these, and no public one
-- does.
pub mod FontBytes
pub mod HintedSets
pub mod Retained
