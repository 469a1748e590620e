-- Laws of the definitions of specs/, for the proofs of this crate and of those above.
pub mod AttemptLaws
pub mod MergeLaws
pub mod AgainLaws
pub mod PartLaws
pub mod BindingLaws
pub mod TurnLaws
