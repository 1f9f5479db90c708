pub mod FontFiles
pub mod Refusals
pub mod MayHint
pub mod Answers
pub mod Profiles
pub mod ReasonTexts
pub mod Representation
