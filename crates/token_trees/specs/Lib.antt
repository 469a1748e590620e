pub mod Runs
pub mod TokenTrees
