pub mod Causes
pub mod KeyTexts
pub mod KnownKeys
pub mod Putting
pub mod Ringing
pub mod SaidTexts
pub mod Talks
