pub mod Told
pub mod Gathered
pub mod Rows
pub mod Lists
