use Rattle.std.proofs.Common.{◌≡◌, suc, ◌+◌, ◌-◌, ◌<◌, length, take, drop, get_or, arith}
use Rattle.std.proofs.lemmas.List.{take_rest}
use Rattle.windows.proofs.LeftLemmas.{fields_named-none, fields_named-more}
use Rattle.windows.proofs.contexts.first_named.Goals as goal

pub returns-then-others-spans : goal.returns-then-others-spans
returns-then-others-spans c = fields_named-none c.args.name.now c.args.spans.now (omega arith)

pub returns : goal.returns
returns c =
    let spans = c.args.spans.now in
    let k = c.others_before-others.result in
    let field = c.index-spans-others.result in
    let inside : k < length spans = omega arith in
    let behind : take (length spans - (k + 1)) (drop (k + 1) spans) ≡ drop (k + 1) spans = take_rest spans (k + 1) in
    let next : k + 1 ≡ suc k = omega arith in
    let first : field ≡ get_or spans k field = c.index-spans-others.is in
    rw behind (rw (← next, ← first) at (fields_named-more c.args.name.now spans k field c.others_before-others.ensures.others inside))
