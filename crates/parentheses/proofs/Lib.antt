-- Laws of the definitions of specs/, for this crate and those above it.
pub mod LaidLaws
pub mod SumLaws
pub mod MarkLaws
pub mod WrapLaws
pub mod Examples
