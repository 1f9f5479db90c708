pub mod Covering
pub mod Copying
pub mod Starts
pub mod Walking
pub mod Answers
pub mod Checked
pub mod Laws
pub mod Moves
