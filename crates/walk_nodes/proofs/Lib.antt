-- Laws of the definitions of specs/, for this crate and those above.
pub mod CandidateLaws
pub mod FoundLaws
pub mod NodeLaws
