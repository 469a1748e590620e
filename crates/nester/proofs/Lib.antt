-- Laws of the definitions of specs/, for the proofs of this crate and of those above.
pub mod Lists
pub mod Lines
pub mod Order
pub mod Kept
pub mod Placing
pub mod Inner
pub mod Shown
pub mod Alike
pub mod Orders
pub mod Settling
pub mod RowSteps
pub mod FateLaws
mod Examples
