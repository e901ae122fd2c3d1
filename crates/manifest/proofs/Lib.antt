pub mod EntryLemmas
pub mod EntryLaws
pub mod ListingLaws
pub mod ManifestLaws
pub mod PriorLaws
pub mod PriorLemmas
pub mod WritingLemmas
