use Rattle.std.proofs.Common.{rules, ◌≡◌, subst}
use Rattle.std.specs.Prelude.{Contains}
use Rattle.std.specs.List.{All}
use Rattle.std.specs.Str.{bytes_eq}
use Rattle.std.proofs.lemmas.List.{take_all}
use Rattle.std.proofs.lemmas.List.Elements.{All-nil}
use Rattle.indexmap.specs.IndexSet.{insert_key}
use Rattle.range_tables.proofs.TextLemmas.{has_more}
use Rattle.range_tables.proofs.texts.distinct_terms.Goals as goal

pub loop-term-init : goal.loop-term-init
loop-term-init c = All-nil _

pub loop-term-preserved : goal.loop-term-preserved
loop-term-preserved c =
    let keys : c.insert.new.self.keys ≡ insert_key bytes_eq c.loop-term.set.keys c.term-item.result = search rules in
    has_more c.args.terms.now c.loop-term.set.keys c.insert.new.self.keys c.loop-term.term-index c.term-item.result c.loop-term-test.true c.term-item.is keys c.loop-term.invariant

pub returns : goal.returns
returns c = subst (All (Contains c.loop-term.set.keys)) (take_all c.loop-term.term-index c.args.terms.now c.loop-term-test.false) c.loop-term.invariant
