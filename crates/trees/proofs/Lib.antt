-- Laws of the definitions of `syntax`, of `facts` and of specs/, for this crate and those above.
pub mod RowLaws
pub mod DepthLaws
mod FactLaws
mod ListLaws
pub mod GivenLaws
