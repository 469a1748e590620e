pub mod Edits
pub mod Traces
pub mod Made
pub mod Loaded
pub mod Answers
