mod BlockLemmas
mod ItemLemmas
mod ScriptForm
