pub mod Forms
pub mod Stages
pub mod Numbering
pub mod Building
