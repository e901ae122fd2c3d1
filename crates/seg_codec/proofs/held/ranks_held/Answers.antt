use Rattle.std.proofs.Common.{◌≡◌, List, true, length, nat_le, sum_by, sym, ap, subst, ◌∙◌, arith}
use Rattle.std.specs.List.{All}
use Rattle.std.proofs.lemmas.Bool.{both_ways}
use Rattle.ri_base.specs.declared.places.Place.{Place}
use Rattle.seg_codec.specs.Held.{AreAgreed, AreOfPostings, IsClashing, IsWithin, lengths, lengths_of}
use Rattle.seg_codec.specs.declared.documents.Entry.{Entry}
use Rattle.seg_codec.proofs.HeldSteps.{none_if_clash, none_if_gap, none_of, ranked_if_full, some_of}
use Rattle.seg_codec.proofs.OnlyLaws.{enough_postings}
use Rattle.seg_codec.proofs.RankLemmas.{kept_within}
use Rattle.seg_codec.proofs.held.ranks_held.Goals as goal

pub returns-then-not-are_enough-clause-none : goal.returns-then-not-are_enough-clause-none
returns-then-not-are_enough-clause-none c docs h =
    let w = c.args.whole.now in
    let yes : c.are_enough.result ≡ true =
    c.are_enough.ensures ∙ ap (λ (pss : List (List Place)). nat_le w.header.tokens (sum_by (λ (ps : List Place). length ps) pss)) c.as_slice-postings.ensures ∙ enough_postings w docs c.requires h in
    both_ways c.are_enough.result c.if-not-are_enough.true yes

pub ranks_at-requires-clause-few : goal.ranks_at-requires-clause-few
ranks_at-requires-clause-few c = omega (arith, ap length c.as_slice-postings.ensures, c.requires.counted, c.requires.few)

pub ranks_at-requires-clause-within : goal.ranks_at-requires-clause-within
ranks_at-requires-clause-within c =
    let w = c.args.whole.now in
    subst (λ (es : List Entry). All (All (IsWithin (lengths_of es))) c.as_slice-postings.result.now) (sym c.as_slice-documents.ensures.same)
    (subst (λ (pss : List (List Place)). All (All (IsWithin (lengths_of w.documents))) pss) (sym c.as_slice-postings.ensures) (kept_within w c.requires))

pub returns-in-Some-clause-found : goal.returns-in-Some-clause-found
returns-in-Some-clause-found c =
    let es = c.as_slice-documents.result.now in
    let pss = c.as_slice-postings.result.now in
    ranked_if_full (λ v. v.items) c.args.whole.now es pss c.in-Some.ranks.items c.full_ranks.result c.as_slice-documents.ensures.same c.as_slice-postings.ensures
    (some_of c.in_ok-ranks.field-0 c.in-Some.ranks c.in-Some.is (λ v. lengths v.items ≡ lengths_of es) c.in_ok-ranks.ensures.shape)
    (some_of c.in_ok-ranks.field-0 c.in-Some.ranks c.in-Some.is (λ v. AreOfPostings pss v.items) c.in_ok-ranks.ensures.only)
    (some_of c.in_ok-ranks.field-0 c.in-Some.ranks c.in-Some.is (λ v. AreAgreed pss v.items) c.in_ok-ranks.ensures.each) c.full_ranks.ensures.same c.full_ranks.ensures.full

pub returns-in-Some-clause-none : goal.returns-in-Some-clause-none
returns-in-Some-clause-none c =
    let es = c.as_slice-documents.result.now in
    let pss = c.as_slice-postings.result.now in
    none_if_gap c.args.whole.now es pss c.in-Some.ranks.items c.full_ranks.result c.as_slice-documents.ensures.same c.as_slice-postings.ensures
    (some_of c.in_ok-ranks.field-0 c.in-Some.ranks c.in-Some.is (λ v. lengths v.items ≡ lengths_of es) c.in_ok-ranks.ensures.shape)
    (some_of c.in_ok-ranks.field-0 c.in-Some.ranks c.in-Some.is (λ v. AreAgreed pss v.items) c.in_ok-ranks.ensures.each) c.full_ranks.ensures.none

pub returns-in-None-clause-none : goal.returns-in-None-clause-none
returns-in-None-clause-none c docs h =
    let clash = none_of c.in_ok-ranks.field-0 c.in-None.is (IsClashing c.as_slice-postings.result.now) c.in_ok-ranks.ensures.none in
    none_if_clash c.args.whole.now docs c.requires (subst IsClashing c.as_slice-postings.ensures clash) h
