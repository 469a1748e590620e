-- Laws of the definitions of specs/, for the proofs of this crate and of those above.
pub mod PlaceholderLaws
pub mod NameLaws
pub mod FactLaws
pub mod TokenLaws
