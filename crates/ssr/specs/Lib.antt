pub mod Lists
pub mod Rules
pub mod Matches
pub mod Exports
