pub mod CvtStarts
pub mod SymbolicEnds
pub mod SymbolicLaws
pub mod SymbolicRefusals
pub mod SymbolicVerdicts
pub mod FontAnswers
pub mod Requests
pub mod Representation
