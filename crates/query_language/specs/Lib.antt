pub mod Canonical
pub mod Grammar
pub mod BeliefGrammar
pub mod QueryGrammar
