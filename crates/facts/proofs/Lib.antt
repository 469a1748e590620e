-- Laws of the definitions of specs/, for this crate and those above it.
pub mod TestLaws
pub mod SteadyLaws
pub mod FactLaws
pub mod KeyLaws
pub mod IndexLaws
pub mod ListLaws
pub mod StartLaws
