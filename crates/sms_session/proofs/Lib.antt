pub mod Encoding
pub mod Enquiries
