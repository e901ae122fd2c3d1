pub mod LineForm
pub mod LineLemmas
pub mod SkipLemmas
pub mod TextLemmas
