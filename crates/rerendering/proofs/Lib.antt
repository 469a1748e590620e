-- Laws of the definitions of specs/, for this crate and those above it.
pub mod PartLaws
pub mod AgainLaws
pub mod EndLaws
