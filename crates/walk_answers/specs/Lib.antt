pub mod Walk
pub mod WalkIsJob
pub mod Walkable
