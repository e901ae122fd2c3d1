pub mod FirstsLemmas
pub mod Lists
pub mod Kept
pub mod Powers
pub mod Enclosures
pub mod Scores
pub mod Same
pub mod Sizes
pub mod Levels
pub mod Walks
pub mod LeafBeliefs
pub mod Greatest
pub mod Plugs
mod Vectors
