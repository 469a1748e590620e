-- Laws of the definitions of specs/, for this crate and those above.
pub mod FormLaws
pub mod StageLaws
pub mod RuleLaws
pub mod FirstLaws
