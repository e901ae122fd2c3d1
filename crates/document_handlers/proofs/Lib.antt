pub mod AdditionLemmas
pub mod Following
