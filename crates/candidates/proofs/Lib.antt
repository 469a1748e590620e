-- Laws of the definitions of specs/, for this crate and those above it.
pub mod CandidateLaws
pub mod Order
pub mod KeyLaws
pub mod EachLaws
pub mod SortedLaws
pub mod Loops
mod Examples
