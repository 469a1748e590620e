pub mod Reading
pub mod Grammar
pub mod Patterns
pub mod Vars
pub mod Steps
