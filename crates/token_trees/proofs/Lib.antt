-- Laws of the definitions of specs/.
pub mod RunLaws
pub mod TokenTreeLaws
pub mod FuelLaws
