pub mod Attempts
pub mod Effects
pub mod Turns
