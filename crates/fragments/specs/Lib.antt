pub mod Forms
pub mod Directory
pub mod Pairs
