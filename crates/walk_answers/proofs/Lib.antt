pub mod SetLaws
pub mod ListLaws
pub mod CheckLaws
pub mod Theorem
pub mod FoundLaws
