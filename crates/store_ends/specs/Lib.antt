pub mod Causes
pub mod Files
pub mod Folders
pub mod Past
