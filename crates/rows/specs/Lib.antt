pub mod Told
pub mod Rows
pub mod Frames
