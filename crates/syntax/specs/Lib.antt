pub mod Parts
pub mod Trees
pub mod Accessors
pub mod Siblings
pub mod Checks
pub mod Rows
pub mod Views
