mod TableForm
mod TableLemmas
mod TextLemmas
