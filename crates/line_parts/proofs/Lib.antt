pub mod DigitLemmas
pub mod FirstByte
mod PartLemmas
pub mod Splits
