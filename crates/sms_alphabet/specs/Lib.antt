pub mod Alphabet
pub mod Code
pub mod Spelling
pub mod Writing
pub mod Reading
pub mod Laws
