pub mod InvertLemmas
pub mod KeptLemmas
pub mod NamesLemmas
pub mod NumberingLemmas
pub mod SortLemmas
pub mod SpreadLemmas
