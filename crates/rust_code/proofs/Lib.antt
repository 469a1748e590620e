-- Laws of raw code.
pub mod Laws
pub mod StandInLaws
pub mod CodeLaws
pub mod TrimLaws
