use Rattle.std.proofs.Common.{◌≡◌, ◌<◌, ◌≤◌, ◌∙◌, ap, sym, subst, List, arith, get_or, set, length, ◌++◌, ◌∷◌, [], Bool}
use Rattle.std.proofs.lemmas.List.{get_or_append_left, get_or_default}
use Rattle.disk_index.specs.Snapshots.{Marked}
use Rattle.holdings.specs.Kept.{marked_at}
use Rattle.holdings.specs.MarkedParts.{IsWhole, filled}
use Rattle.holdings.proofs.KeptLemmas.{at-end, mark-filling, mark-part}
use Rattle.holdings.proofs.live_parts.mark_at.Goals as goal

pub mark-requires : goal.mark-requires
mark-requires c =
    let items : List Marked = c.args.closed.now.items in
    let part = c.args.spot.part in
    let x : Marked = c.index_mut-marked.result.now in
    let inside : part < length items = omega arith in
    let whole : IsWhole x = subst IsWhole (sym c.index_mut-marked.ensures.value) (c.requires.whole part x inside) in
    let here : get_or (items ++ filled [] c.args.marks.now ∷ []) part (filled [] []) ≡ x =
    get_or_append_left items (filled [] c.args.marks.now ∷ []) (filled [] []) part inside ∙ get_or_default items part (filled [] []) x inside ∙ sym c.index_mut-marked.ensures.value in
    let near : c.args.spot.id < length x.marks = subst (λ (m : Marked). c.args.spot.id < length m.marks) here c.requires.room in
    omega (arith, near, whole)

pub returns-then-spot-len : goal.returns-then-spot-len
returns-then-spot-len c docs =
    let items = c.args.closed.now.items in
    let x = c.index_mut-marked.result.now in
    ap (λ (m : Marked). set items c.args.spot.part m ++ filled docs c.args.marks.now ∷ []) c.mark.ensures.marks
    ∙ mark-part items (filled docs c.args.marks.now) x c.args.spot.part c.args.spot.id (omega arith) c.index_mut-marked.ensures.value

pub returns-else-spot-len : goal.returns-else-spot-len
returns-else-spot-len c docs =
    let items = c.args.closed.now.items in
    let below : length items ≤ c.args.spot.part = omega arith in
    let end : c.args.spot.part ≡ length items = at-end items [] c.args.marks.now c.args.spot.part c.args.spot.id c.requires.room below in
    ap (λ (ms : List Bool). items ++ filled docs ms ∷ []) c.mark-else-spot-len.ensures.marks
    ∙ mark-filling items (filled docs c.args.marks.now) c.args.spot.id
    ∙ ap (λ n. marked_at (items ++ filled docs c.args.marks.now ∷ []) n c.args.spot.id) (sym end)
