pub mod Parts
pub mod Endings
