pub mod Form
pub mod Lines
pub mod Reads
pub mod Texts
