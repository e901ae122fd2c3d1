pub mod Candidates
pub mod Counters
pub mod Counts
pub mod Rows
pub mod Told
