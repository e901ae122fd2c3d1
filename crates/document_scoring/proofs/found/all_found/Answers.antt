use Rattle.std.proofs.Common.{arith, rules, ◌≡◌, ◌<◌, ◌+◌, ◌++◌, ◌∷◌, [], List, ℕ, inl, inr, get_or, length, map, take, ap, sym, subst, ◌∙◌}
use Rattle.std.specs.List.{All}
use Rattle.std.proofs.lemmas.List.{length-map, length_push, take_all}
use Rattle.std.proofs.lemmas.List.Elements.{All-contains, All-more, All-push}
use Rattle.ri_base.specs.Collection.{document_at}
use Rattle.ri_base.specs.Documents.{Document}
use Rattle.ri_base.specs.Pair.{Pair}
use Rattle.query_check.specs.Leaves.{leaf_tree, prior}
use Rattle.document_scoring.specs.Counters.{IsFound, found_count}
use Rattle.document_scoring.specs.Counts.{count_in}
use Rattle.document_scoring.specs.Told.{IsLeafTold}
use Rattle.document_scoring.specs.declared.found.LeafExtents.{LeafExtents}
use Rattle.document_scoring.proofs.CountLemmas.{IsFound-stays, found_stays, next_same}
use Rattle.document_scoring.proofs.FirstsLemmas.{default, so_far_read}
use Rattle.document_scoring.proofs.ToldLemmas.{IsLeafTold-weaker}
use Rattle.document_scoring.proofs.found.all_found.Goals as goal

pub found_at-requires-clause-before : goal.found_at-requires-clause-before
found_at-requires-clause-before g c =
    let read = g.P.Postings.documents c.loop-number.part in
    subst (All (IsFound (document_at read c.args.id).fields)) (sym c.deref.ensures.value)
    (subst (λ (ds : List Document). All (IsFound (document_at ds c.args.id).fields) c.loop-number.all.items) (sym c.loop-number.invariant.keeps.documents_stay) c.loop-number.invariant.found)

pub loop-number-preserved : goal.loop-number-preserved
loop-number-preserved g c =
    let docs = g.P.Postings.documents c.args.part.now in
    let read = g.P.Postings.documents c.loop-number.part in
    let d = document_at docs c.args.id in
    let stay = c.loop-number.invariant.keeps.documents_stay in
    let leaves = map leaf_tree c.args.leaves.now in
    let i = c.loop-number.number in
    let leaf = get_or leaves i (prior 0) in
    let found = c.in_ok-found.found in
    let all = c.loop-number.all.items in
    let long = length-map c.args.leaves.now leaf_tree in
    let inside : i < length leaves = omega (arith, c.loop-number-test.true, long) in
    let pushed : c.push.new.self.items ≡ all ++ found ∷ [] = search rules in
    let before : g.P.Postings.sound c.args.part.now → (w : Pair) → map (found_count (document_at read c.args.id).fields w) c.deref.result.now ≡ map (count_in (document_at read c.args.id) w) (take i leaves) =
    λ sound.
    subst (λ (v : List LeafExtents). (w : Pair) → map (found_count (document_at read c.args.id).fields w) v ≡ map (count_in (document_at read c.args.id) w) (take i leaves)) (sym c.deref.ensures.value)
    (so_far_read docs read c.args.id leaves i all (sym stay) (c.loop-number.invariant.so_far sound)) in
    record {
      undamaged = c.in_ok-found.ensures.undamaged ∙ c.loop-number.invariant.undamaged;
      keeps = search rules;
      so_far = λ sound w.
          rw pushed (next_same (found_count d.fields w) (count_in d w) all leaves i found leaf inside (default leaves i (prior 0) leaf inside) (c.loop-number.invariant.so_far sound w)
          (found_stays docs read c.args.id w leaf found stay
          (c.in_ok-found.ensures.exact (c.loop-number.invariant.keeps.sound_stays sound) (before sound) w)));
      each = rw pushed (length_push all found ∙ ap (λ n. n + 1) c.loop-number.invariant.each);
      told =
          let IsTold = λ (t : List ℕ). g.P.Postings.told c.args.part.now t c.args.id in
          let IsToldNow = λ (t : List ℕ). g.P.Postings.told c.loop-number.part t c.args.id in
          let before = λ (t : List ℕ). g.met.P.Postings.told_before c.args.part.now c.loop-number.part t c.args.id c.loop-number.invariant.keeps.stays_quiet in
          let here : IsLeafTold IsTold leaf = elim c.in_ok-found.ensures.told [
            | inl now ↦ IsLeafTold-weaker IsToldNow IsTold before leaf now
            | inr earlier ↦ All-contains (IsLeafTold IsTold) (take i leaves) leaf c.loop-number.invariant.told earlier
          ] in
          All-more (IsLeafTold IsTold) leaves i (prior 0) inside c.loop-number.invariant.told here;
      found = rw pushed (All-push (IsFound d.fields) all found c.loop-number.invariant.found (IsFound-stays docs read c.args.id found stay c.in_ok-found.ensures.found));
    }

pub returns-clause-exact : goal.returns-clause-exact
returns-clause-exact g c = λ sound w.
    let d = document_at (g.P.Postings.documents c.args.part.now) c.args.id in
    let long = length-map c.args.leaves.now leaf_tree in
    c.loop-number.invariant.so_far sound w ∙ ap (map (count_in d w)) (take_all c.loop-number.number (map leaf_tree c.args.leaves.now) (omega (arith, c.loop-number-test.false, long)))

pub returns-clause-told : goal.returns-clause-told
returns-clause-told g c =
    let long = length-map c.args.leaves.now leaf_tree in
    subst (All (IsLeafTold (λ t. g.P.Postings.told c.args.part.now t c.args.id))) (take_all c.loop-number.number (map leaf_tree c.args.leaves.now) (omega (arith, c.loop-number-test.false, long))) c.loop-number.invariant.told
