pub mod Pieces
pub mod Rendering
