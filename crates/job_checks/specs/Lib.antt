pub mod Checks
pub mod Checked
pub mod Marks
