pub mod CommandFaults
pub mod ExtentLines
pub mod Faults
pub mod Lines
pub mod Pieces
pub mod Written
