-- Laws of the definitions of specs/, for those above.
pub mod Laws
