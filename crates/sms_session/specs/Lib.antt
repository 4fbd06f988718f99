pub mod Decisions
pub mod Enquiries
pub mod Session
pub mod Settings
