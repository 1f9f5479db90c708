pub mod Following
pub mod SymbolicFonts
pub mod StrictFonts
pub mod SymbolicStarts
pub mod SymbolicAnswers
pub mod SymbolicSteps
