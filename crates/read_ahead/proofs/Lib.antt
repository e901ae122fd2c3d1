pub mod Parts
pub mod StepsLemmas
