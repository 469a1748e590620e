pub mod Matches
pub mod Nest
pub mod Fates
pub mod Places
pub mod Collections
pub mod Rows
