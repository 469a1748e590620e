-- The theorem of the starred examples, and what lets its definitions compute.
pub mod Decoding
pub mod Attempts
pub mod Searching
pub mod Jobs
pub mod Theorem
