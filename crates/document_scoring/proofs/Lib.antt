pub mod CountLemmas
pub mod CounterLemmas
pub mod FilterLemmas
pub mod FirstsLemmas
pub mod ScoringLemmas
pub mod ToldLemmas
