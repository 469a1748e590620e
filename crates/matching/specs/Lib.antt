pub mod RecordFields
pub mod StartingOver
pub mod Matching
