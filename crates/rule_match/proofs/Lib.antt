-- Laws of the definitions of specs/, for this crate and those above it.
pub mod MatchLaws
pub mod ReadyLaws
