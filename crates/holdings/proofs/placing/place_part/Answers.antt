use Rattle.std.proofs.Common.{◌≡◌, ◌<◌, ◌∙◌, ◌++◌, ◌∷◌, [], ap, sym, arith, length, subst, Bool, List}
use Rattle.holdings.specs.MarkedParts.{docnos_in}
use Rattle.holdings.specs.Placing.{Repeats}
use Rattle.holdings.proofs.LiveLemmas.{length-docnos_in}
use Rattle.holdings.proofs.PlacingLemmas.{ArePlaced-next, ArePlaced-whole, Repeats-next}
use Rattle.holdings.proofs.placing.place_part.Goals as goal

pub loop-id-preserved : goal.loop-id-preserved
loop-id-preserved c front number kept =
    let m = c.args.part.now in
    let same = ap (λ (l : List Bool). length l) c.marks.ensures.marks in
    let within : c.loop-id.id < length m.marks = omega (arith, same, c.len-id-end.ensures, c.loop-id-test.true) in
    let long : length m.marks ≡ length (docnos_in m.source) = c.marks.ensures.whole ∙ sym (length-docnos_in m.source) in
    ArePlaced-next _ _ front (docnos_in m.source) m.marks (record { part = c.args.number; id = c.loop-id.id }) long within (sym number)
    (c.in_ok-place_one.ensures.places c.if-not-branch.false) (c.loop-id.invariant front number kept)

pub returns-clause-places : goal.returns-clause-places
returns-clause-places c _ front number kept =
    let m = c.args.part.now in
    let same = ap (λ (l : List Bool). length l) c.marks.ensures.marks in
    let long : length m.marks ≡ length (docnos_in m.source) = c.marks.ensures.whole ∙ sym (length-docnos_in m.source) in
    let all : c.loop-id.id ≡ length m.marks = omega (arith, same, c.len-id-end.ensures, c.loop-id.auto.id-end, c.loop-id-test.false) in
    ArePlaced-whole _ front m c.loop-id.id c.marks.ensures.whole long all (c.loop-id.invariant front number kept)

pub returns-then-not-branch-clause-repeats : goal.returns-then-not-branch-clause-repeats
returns-then-not-branch-clause-repeats c front number kept =
    let m = c.args.part.now in
    let same = ap (λ (l : List Bool). length l) c.marks.ensures.marks in
    let within : c.loop-id.id < length m.marks = omega (arith, same, c.len-id-end.ensures, c.loop-id-test.true) in
    let long : length m.marks ≡ length (docnos_in m.source) = c.marks.ensures.whole ∙ sym (length-docnos_in m.source) in
    subst (λ n. Repeats (front ++ m ∷ []) (record { part = n; id = c.loop-id.id })) number
    (Repeats-next _ front m c.loop-id.id long within (c.in_ok-place_one.ensures.unmarked c.if-not-branch.true) (c.in_ok-place_one.ensures.there c.if-not-branch.true) (c.loop-id.invariant front number kept))
