pub mod Documents
pub mod Events
pub mod Left
