-- Laws of the definitions of specs/.
pub mod StepLaws
pub mod GiveLaws
pub mod NodeLaws
pub mod CallLaws
pub mod AlongLaws
pub mod TurnLaws
pub mod LoopLaws
pub mod FuelLaws
pub mod OverLaws
pub mod MeasureLaws
pub mod StandLaws
pub mod PairLaws
pub mod MeasuredLaws
pub mod NameLaws
pub mod LaidLaws
