pub mod Chain
pub mod Progress
pub mod Score
