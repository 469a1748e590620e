-- Laws of the definitions of specs/, for the proofs of this crate and of those above.
pub mod PartLaws
pub mod TreeLaws
pub mod RowLaws
pub mod Bridge
pub mod Words
pub mod Exactly
pub mod CheckLaws
pub mod Places
pub mod AccessorLaws
pub mod Unique
pub mod Ancestors
pub mod Elements
pub mod SiblingLaws
pub mod ViewLaws
pub mod FormedLaws
