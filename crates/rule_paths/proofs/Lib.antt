-- Laws of the definitions of specs/, for this crate and those above it.
pub mod NeedLaws
pub mod FailLaws
pub mod PairLaws
pub mod LeftLaws
pub mod AcceptedLaws
