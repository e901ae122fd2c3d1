pub mod Commands
pub mod Cut
pub mod Ending
pub mod InTurn
pub mod Joining
pub mod Lifting
