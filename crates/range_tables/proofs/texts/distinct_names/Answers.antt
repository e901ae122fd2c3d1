use Rattle.std.proofs.Common.{rules, ◌≡◌, subst}
use Rattle.std.specs.Prelude.{Contains}
use Rattle.std.specs.List.{All}
use Rattle.std.specs.Str.{bytes_eq}
use Rattle.std.proofs.lemmas.List.{take_all}
use Rattle.std.proofs.lemmas.List.Elements.{All-nil}
use Rattle.indexmap.specs.IndexSet.{insert_key}
use Rattle.range_tables.proofs.TextLemmas.{has_more}
use Rattle.range_tables.proofs.texts.distinct_names.Goals as goal

pub loop-name-init : goal.loop-name-init
loop-name-init c = All-nil _

pub loop-name-preserved : goal.loop-name-preserved
loop-name-preserved c =
    let keys : c.insert.new.self.keys ≡ insert_key bytes_eq c.loop-name.set.keys c.name-item.result = search rules in
    has_more c.args.names.now c.loop-name.set.keys c.insert.new.self.keys c.loop-name.name-index c.name-item.result c.loop-name-test.true c.name-item.is keys c.loop-name.invariant

pub returns : goal.returns
returns c = subst (All (Contains c.loop-name.set.keys)) (take_all c.loop-name.name-index c.args.names.now c.loop-name-test.false) c.loop-name.invariant
