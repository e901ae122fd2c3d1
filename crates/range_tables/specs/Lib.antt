pub mod Asks
pub mod Begins
pub mod Gaps
pub mod Needs
pub mod Sections
