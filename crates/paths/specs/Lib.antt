pub mod Names
pub mod Qualifiers
pub mod Steps
pub mod Resolved
pub mod Trees
pub mod Tables
