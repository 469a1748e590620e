pub mod Facts
pub mod Keys
