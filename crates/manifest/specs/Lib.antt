pub mod Entries
pub mod Files
pub mod Fits
pub mod Listing
pub mod Spelling
pub mod Priors
pub mod PriorFits
