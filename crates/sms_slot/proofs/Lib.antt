pub mod Moves
pub mod Rings
