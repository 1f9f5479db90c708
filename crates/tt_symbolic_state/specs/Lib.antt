pub mod Values
pub mod CvtMachine
pub mod Shows
