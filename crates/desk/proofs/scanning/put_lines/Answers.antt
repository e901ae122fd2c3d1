use Rattle.std.proofs.Common.{◌≡◌, ◌∙◌, ◌++◌, ◌<◌, ◌≤◌, List, ap, get_or, length, subst, rules}
use Rattle.ri_base.specs.Pair.{Pair}
use Rattle.std.proofs.lemmas.List.{take_all}
use Rattle.desk.specs.Scanning.{lines_of}
use Rattle.desk.proofs.ScanLemmas.{lines-next}
use Rattle.desk.proofs.scanning.put_lines.Goals as goal

pub loop-extent-preserved : goal.loop-extent-preserved
loop-extent-preserved c =
    let same : c.as_slice-extent-items.result.now ≡ c.args.found.now = search rules in
    let w = c.extent-item.result in
    lines-next c.args.docno.now c.args.found.now c.loop-extent.extent-index w c.args.lines.now c.loop-extent.lines _ (subst (λ (ws : List Pair). c.loop-extent.extent-index < length ws) same c.loop-extent-test.true)
    (subst (λ (ws : List Pair). w ≡ get_or ws c.loop-extent.extent-index w) same c.extent-item.is) c.loop-extent.invariant (search rules)

pub returns : goal.returns
returns c =
    let same : c.as_slice-extent-items.result.now ≡ c.args.found.now = search rules in
    c.loop-extent.invariant ∙ ap (λ ws. c.args.lines.now ++ lines_of c.args.docno.now ws) (take_all c.loop-extent.extent-index c.args.found.now (subst (λ (ws : List Pair). length ws ≤ c.loop-extent.extent-index) same c.loop-extent-test.false))
