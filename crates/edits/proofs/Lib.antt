-- That the edit list is its trace in every room, that its edits rise and what the file is with them made, and that a loader reads it back;
-- and laws of the buffer, for the proofs of this crate.
pub mod TraceLaws
pub mod MadeLaws
pub mod LoadedLaws
pub mod BufferLaws
