pub mod RulePaths
pub mod Needs
pub mod Accepted
