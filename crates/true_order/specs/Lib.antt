pub mod Ranked
pub mod TrueOrder
