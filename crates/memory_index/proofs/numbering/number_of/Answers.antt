use Rattle.std.proofs.Common.{◌≡◌, sym, ◌∙◌, ap, false}
use Rattle.std.specs.List.{list_any}
use Rattle.std.specs.Str.{bytes_eq}
use Rattle.memory_index.proofs.NumberingLemmas.{stored_at, stored_new}
use Rattle.memory_index.proofs.numbering.number_of.Goals as goal
use Rattle.indexmap.specs.IndexSet.{insert_key}

pub returns-in-Some-clause-stored : goal.returns-in-Some-clause-stored
returns-in-Some-clause-stored c = stored_at _ _ _ (sym c.in-Some.ensures.index)

pub returns-clause-stored : goal.returns-clause-stored
returns-clause-stored c =
    let absent : list_any (bytes_eq c.args.term.now) c.args.terms.now.keys ≡ false = sym c.in_default.ensures.found in
    let keys : c.insert.new.self.keys ≡ insert_key bytes_eq c.args.terms.now.keys c.args.term.now = c.in_ok-insert.ensures.keys ∙ ap (insert_key bytes_eq c.args.terms.now.keys) c.in_ok-clone_in.ensures in
    rw c.len-n.ensures.len (stored_new c.args.terms.now.keys c.args.term.now c.insert.new.self.keys absent keys)
