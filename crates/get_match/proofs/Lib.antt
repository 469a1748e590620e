-- Laws of the definitions of specs/, for the proofs of this crate and of those above.
pub mod TemplateLaws
pub mod TryLaws
mod FirstLaws
mod TurnLaws
mod ScanLaws
