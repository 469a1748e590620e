-- Laws of reading, for this crate and those above it.
pub mod Laws
pub mod PatternLaws
pub mod ListLaws
pub mod Grammar
