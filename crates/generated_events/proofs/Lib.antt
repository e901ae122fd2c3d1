pub mod DocnoLemmas
pub mod EventLemmas
pub mod SumLemmas
