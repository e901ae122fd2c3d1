pub mod BuildLemmas
pub mod ChainLemmas
pub mod LeftLemmas
pub mod NextLemmas
pub mod PlaceLemmas
pub mod ShapeLemmas
pub mod WalkLaws
