-- Laws of the definitions of `parses` and of specs/, for this crate and those above it.
pub mod CheckLaws
pub mod TemplateLaws
pub mod JobLaws
mod RangeLaws
mod MarkLaws
