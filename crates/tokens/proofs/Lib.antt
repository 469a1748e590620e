-- Laws of token lists, for this crate and those above it.
pub mod Laws
