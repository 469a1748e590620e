pub mod WalkCandidates
pub mod Finds
