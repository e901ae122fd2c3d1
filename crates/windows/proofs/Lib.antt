pub mod LeftLemmas
pub mod OrderLemmas
