pub mod RawCode
pub mod Segments
pub mod StandIns
pub mod Trim
