-- Laws of the definitions of specs/, for the proofs of this crate and of those above.
pub mod CommentLaws
pub mod StackLaws
pub mod WorkLaws
pub mod StepLaws
pub mod RowLaws
pub mod TurnLaws
pub mod RunLaws
