-- Laws of the buffer, of the rows, of what a frame says, and of the row that holds another.
pub mod BetweenLaws
pub mod RowLaws
pub mod StandLaws
pub mod OwnerLaws
