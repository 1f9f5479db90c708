pub mod Computings
pub mod Exacts
pub mod Simplifying
pub mod Stacks
pub mod Takings
pub mod GraphicsOfCells
