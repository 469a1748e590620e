pub mod Worlds
pub mod Stacks
pub mod Answers
pub mod Turns
