pub mod Templates
pub mod GetMatch
pub mod FirstPhase
