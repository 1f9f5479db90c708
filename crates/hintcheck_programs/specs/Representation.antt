-- How the code keeps what the definitions speak of: private contracts cite these, and no public one
-- does.
pub mod FontVerdicts
pub mod Judges
pub mod ProgramOrder
