pub mod ClosedLemmas
pub mod CopyLemmas
pub mod CutLemmas
pub mod JobLemmas
pub mod KeepLemmas
pub mod LawLemmas
pub mod MarkLemmas
pub mod WalkLemmas
