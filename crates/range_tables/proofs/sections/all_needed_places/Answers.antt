use Rattle.std.proofs.Common.{rules, ◌≡◌, ◌++◌, ◌∷◌, [], map, refl, subst, arith, ◌∙◌}
use Rattle.std.specs.List.{AllZip}
use Rattle.std.proofs.lemmas.List.{take_all}
use Rattle.extent_lists.proofs.KeepsLemmas.{Keeps-then}
use Rattle.query_check.specs.Leaves.{leaf_tree}
use Rattle.range_bounds.specs.Ranges.{range_documents}
use Rattle.range_tables.specs.Needs.{IsTermCount}
use Rattle.range_tables.proofs.NeedLemmas.{counts_more}
use Rattle.range_tables.proofs.sections.all_needed_places.Goals as goal

pub loop-term-init : goal.loop-term-init
loop-term-init g c = record {
  undamaged = refl;
  keeps = record { documents_stay = refl; no_fault_lost = omega arith; sound_stays = λ u. u; intact_stays = λ u. u; stays_quiet = g.met.P.Postings.quiet_same _ };
  exact = λ sound. search rules;
}

pub loop-term-preserved : goal.loop-term-preserved
loop-term-preserved g c =
    let docs = g.P.Postings.documents c.args.part.now in
    let leaves = map leaf_tree c.args.leaves.now in
    let terms = c.args.terms.now in
    let so_far = c.loop-term.invariant in
    record {
      undamaged = c.in_ok-most.ensures.undamaged ∙ c.loop-term.invariant.undamaged;
      keeps = Keeps-then _ _ _ _ _ g.met.P.Postings.quiet_then _ _ _ so_far.keeps c.needed_places.ensures.keeps;
      exact = λ sound.
          let pushed : c.push.new.self.items ≡ c.loop-term.all.items ++ c.in_ok-most.most ∷ [] = search rules in
          let found = rw so_far.keeps.documents_stay at (c.in_ok-most.ensures.exact (so_far.keeps.sound_stays sound)) in
          counts_more (IsTermCount leaves (range_documents docs c.args.range)) terms c.loop-term.term-index c.term-item.result c.loop-term.all.items c.push.new.self.items c.in_ok-most.most c.loop-term-test.true c.term-item.is pushed (so_far.exact sound) found;
    }

pub returns-clause-exact : goal.returns-clause-exact
returns-clause-exact g c = λ sound.
    let docs = g.P.Postings.documents c.args.part.now in
    subst (λ ts. AllZip (IsTermCount (map leaf_tree c.args.leaves.now) (range_documents docs c.args.range)) ts c.loop-term.all.items) (take_all c.loop-term.term-index c.args.terms.now c.loop-term-test.false) (c.loop-term.invariant.exact sound)
