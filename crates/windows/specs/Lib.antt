pub mod Left
pub mod Windows
