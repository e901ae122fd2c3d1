pub mod DistinctLemmas
pub mod WordLemmas
