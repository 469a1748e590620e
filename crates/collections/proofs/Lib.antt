-- That the texts of a job's rows are those of its collections, and laws of links.
pub mod EachLaws
pub mod PlaceLaws
pub mod Collected
pub mod Texts
pub mod Slots
pub mod Linked
pub mod Theorem
pub mod LinkLaws
