pub mod Collected
pub mod Answers
pub mod Demand3
