-- Laws of the definitions of specs/, for the proofs of this crate and of those above.
pub mod NameLaws
pub mod StepLaws
pub mod PastLaws
pub mod WalkLaws
pub mod TableLaws
