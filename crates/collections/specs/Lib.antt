pub mod Worlds
pub mod Links
