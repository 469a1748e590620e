pub mod Templates
pub mod Ready
