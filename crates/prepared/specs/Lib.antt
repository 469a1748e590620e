pub mod Placeholders
pub mod Rules
