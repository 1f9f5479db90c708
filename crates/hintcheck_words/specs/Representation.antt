-- What the code promises of its parts: private contracts cite these, and no public one does.
pub mod Tables
