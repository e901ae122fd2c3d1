use Rattle.std.proofs.Common.{rules, ◌≡◌, ◌<◌, ◌≤◌, ◌*◌, ◌+◌, ◌∙◌, ◌++◌, ◌∷◌, [], ℕ, List, Option, None, length, length-append, get_or, map, refl, sym, ap, subst, arith, ⊎_elim}
use Rattle.std.proofs.lemmas.Bool.{cases_lt}
use Rattle.std.proofs.lemmas.List.{get_or_append_left}
use Rattle.std.proofs.Math.Seq.{get_or-append_seam}
use Rattle.ri_base.specs.Documents.{Document}
use Rattle.extent_lists.proofs.KeepsLemmas.{Keeps-then}
use Rattle.query_check.specs.Leaves.{leaf_tree}
use Rattle.range_bounds.specs.Ranges.{range_documents}
use Rattle.range_bounds.specs.Tables.{TellsRange}
use Rattle.range_bounds.specs.declared.range_counts.RangeCounts.{RangeCounts}
use Rattle.range_tables.specs.Gaps.{AreAbsentTo}
use Rattle.range_tables.proofs.AbsentLemmas.{absent_later}
use Rattle.range_tables.proofs.table.all_counts.Goals as goal

-- what is told of one range more
one_more : (P : ℕ → Option RangeCounts → Type 0) (xs : List (Option RangeCounts)) (x : Option RangeCounts) → ((i : ℕ) → i < length xs → P i (get_or xs i None)) → P (length xs) x
    → (i : ℕ) → i < length (xs ++ x ∷ []) → P i (get_or (xs ++ x ∷ []) i None)
one_more P xs x all here i inside = ⊎_elim
    (λ (before : i < length xs). subst (P i) (sym (get_or_append_left xs (x ∷ []) None i before)) (all i before))
    (λ (behind : length xs ≤ i).
    let same : i ≡ length xs = omega (arith, behind, inside, length-append xs (x ∷ [])) in
    subst (λ n. P n (get_or (xs ++ x ∷ []) n None)) (sym same) (subst (P (length xs)) (sym (get_or-append_seam xs x [] None)) here))
    (cases_lt i (length xs))

pub loop-range-init : goal.loop-range-init
loop-range-init g c =
    let none : length c.in_ok-ranges.ranges.items ≡ 0 = search rules in
    record {
      undamaged = refl;
      keeps = record { documents_stay = refl; no_fault_lost = omega arith; sound_stays = λ u. u; intact_stays = λ u. u; stays_quiet = g.met.P.Postings.quiet_same _ };
      long = none;
      absent = λ sound range low under. absurd (omega (arith, under));
      exact = λ sound range inside. absurd (omega (arith, inside, none));
    }

pub told_of-requires-clause-range : goal.told_of-requires-clause-range
told_of-requires-clause-range g c =
    subst (λ (ds : List Document). 64 * c.loop-range.range < length ds) (sym c.loop-range.invariant.keeps.documents_stay) (omega (arith, c.loop-range-test.true, c.range_count-count.ensures.some, c.range_count-count.ensures.all, c.docs.ensures))

pub loop-range-preserved : goal.loop-range-preserved
loop-range-preserved g c =
    let docs = g.P.Postings.documents c.args.part.now in
    let so_far = c.loop-range.invariant in
    let leaves = map leaf_tree c.args.leaves.now in
    let terms = c.args.terms.now in
    let names = c.args.names.now in
    let range = c.loop-range.range in
    let next = c.next_occurrence-next.result in
    let told = c.in_ok-told.told in
    let pushed : c.push.new.self.items ≡ c.loop-range.ranges.items ++ told ∷ [] = search rules in
    let now = g.P.Postings.documents c.loop-range.part in
    let same : now ≡ docs = so_far.keeps.documents_stay in
    let absent : g.P.Postings.sound c.args.part.now → AreAbsentTo leaves now range next =
    λ sound. c.next_occurrence-next.ensures (so_far.keeps.sound_stays sound) (subst (λ (ds : List Document). AreAbsentTo leaves ds range c.loop-range.next) (sym same) (so_far.absent sound)) in
    record {
      undamaged = c.in_ok-told.ensures.undamaged ∙ c.loop-range.invariant.undamaged;
      keeps = Keeps-then _ _ _ _ _ g.met.P.Postings.quiet_then _ _ _ so_far.keeps c.told_of.ensures.keeps;
      long = ap length pushed ∙ omega (arith, length-append c.loop-range.ranges.items (told ∷ []), so_far.long);
      absent = λ sound. absent_later leaves docs range (range + 1) next (omega arith) (subst (λ (ds : List Document). AreAbsentTo leaves ds range next) same (absent sound));
      exact = λ sound.
          let here : TellsRange leaves terms names (range_documents docs range) told =
          subst (λ (ds : List Document). TellsRange leaves terms names (range_documents ds range) told) same (c.in_ok-told.ensures.exact (so_far.keeps.sound_stays sound) (absent sound)) in
          subst (λ xs. (i : ℕ) → i < length xs → TellsRange leaves terms names (range_documents docs i) (get_or xs i None)) (sym pushed)
          (one_more (λ i x. TellsRange leaves terms names (range_documents docs i) x) c.loop-range.ranges.items told (so_far.exact sound) (subst (λ n. TellsRange leaves terms names (range_documents docs n) told) (sym so_far.long) here));
    }

pub returns-clause-exact : goal.returns-clause-exact
returns-clause-exact g c = λ sound.
    let long = c.loop-range.invariant.long in
    let some = c.range_count-count.ensures.some in
    let all = c.range_count-count.ensures.all in
    let end = c.loop-range-test.false in
    record {
      few = omega (arith, long, end, some, c.docs.ensures);
      each = λ range inside. c.loop-range.invariant.exact sound range (omega (arith, inside, long, end, all, c.docs.ensures));
    }
