pub mod Ranges
pub mod Parses
