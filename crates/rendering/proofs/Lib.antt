-- The laws of texts and their traces, that the second rendering is the first with parentheses put in, and closed examples.
pub mod RoomLaws
pub mod TraceLaws
pub mod Theorem
pub mod Examples
