use Rattle.std.proofs.Common.{arith, ◌≡◌, [], ◌∷◌, ◌++◌, get_or, set, sym, ◌∙◌, ap}
use Rattle.std.proofs.lemmas.List.{get_or_default, set_past}
use Rattle.disk_index.proofs.ranks.put_rank.Goals as goal

pub returns-then-range-len : goal.returns-then-range-len
returns-then-range-len c = sym (set_past c.args.rows.now.items c.args.range (get_or c.args.rows.now.items c.args.range [] ++ c.args.rank ∷ []) (omega arith))

pub returns : goal.returns
returns c =
    let rows = c.args.rows.now.items in
    let here : c.index_mut.result.now ≡ get_or rows c.args.range [] = c.index_mut.ensures.value ∙ get_or_default rows c.args.range c.index_mut.result.now [] (omega arith) in
    ap (set rows c.args.range) (c.in_ok-push.ensures.ok ∙ ap (λ l. l ++ c.args.rank ∷ []) here)
