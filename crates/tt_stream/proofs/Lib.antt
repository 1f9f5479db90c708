pub mod Written
pub mod Windows
pub mod Printed
pub mod Beginnings
pub mod Filled
pub mod Ahead
pub mod Skipped
