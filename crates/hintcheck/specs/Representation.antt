-- What the code promises of its parts and keeps beside the answers: private contracts cite these, and
-- no public one does.
pub mod Answers
pub mod Known
pub mod ScannedFiles
