-- Demand 3 of a job, and the laws that it rests on.
pub mod Order
pub mod Files
pub mod Lists
pub mod Templates
pub mod AnswerLaws
pub mod Demand3
