pub mod AbsentLemmas
pub mod BeginLemmas
pub mod Counted
pub mod NeedLemmas
pub mod SectionLemmas
pub mod TableLemmas
pub mod TextLemmas
