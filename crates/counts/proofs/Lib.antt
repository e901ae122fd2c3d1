pub mod KeptLemmas
pub mod OccurrenceLemmas
pub mod PresenceLemmas
pub mod ReadingLemmas
pub mod SumsLemmas
