pub mod Asked
pub mod Parts
pub mod Rows
pub mod Table
