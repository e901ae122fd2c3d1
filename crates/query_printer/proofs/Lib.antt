pub mod Texts
pub mod BeliefTexts
pub mod Decimals
