use Rattle.std.proofs.Common.{◌≡◌, ◌-◌, get_or, length, rules, ltb}
use Rattle.std.proofs.lemmas.List.Sorted.{answers_always}
use Rattle.range_masks.proofs.EntryLemmas.{rise-below, told-no, told-yes}
use Rattle.range_masks.proofs.opening.rise_below.Goals as goal

pub returns-then-last-end-clause-yes : goal.returns-then-last-end-clause-yes
returns-then-last-end-clause-yes c = λ yes.
    let answer = c.is_sorted_by.ensures.cases ltb (answers_always _ _ _ (λ f a r q called. search rules)) in
    let last : c.in-Some.last.now ≡ get_or c.args.places.now (length c.args.places.now - 1) c.in-Some.last.now = search rules in
    rise-below c.args.places.now c.in-Some.last.now c.args.end (told-yes c.args.places.now c.is_sorted_by.result answer yes) last c.if-last-end.true

pub returns-then-last-end-clause-no : goal.returns-then-last-end-clause-no
returns-then-last-end-clause-no c = λ are. told-no c.args.places.now c.is_sorted_by.result (c.is_sorted_by.ensures.cases ltb (answers_always _ _ _ (λ f a r q called. search rules))) are.rising
