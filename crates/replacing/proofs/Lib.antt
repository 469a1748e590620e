pub mod LayLaws
pub mod PieceLaws
pub mod CapturedLaws
pub mod StepLaws
