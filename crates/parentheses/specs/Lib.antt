pub mod Parentheses
pub mod Parts
