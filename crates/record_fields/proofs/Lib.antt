-- Laws of the definitions of specs/, for the proofs of this crate and of those above.
pub mod FieldLaws
pub mod OrderLaws
