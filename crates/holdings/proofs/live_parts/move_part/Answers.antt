use Rattle.std.proofs.Common.{◌≡◌, ◌∙◌, [], ap, sym, List, set, get_or, arith}
use Rattle.std.proofs.lemmas.List.{get_or_default}
use Rattle.std.specs.Prelude.{length}
use Rattle.disk_index.specs.Parts.{outlines_of, source_of}
use Rattle.disk_index.specs.Snapshots.{Marked}
use Rattle.holdings.specs.MarkedParts.{filled}
use Rattle.holdings.proofs.MovedLemmas.{set-moved}
use Rattle.holdings.proofs.live_parts.move_part.Goals as goal

pub set_part-requires : goal.set_part-requires
set_part-requires c =
    let items : List Marked = c.args.parts.now.items in
    let x : Marked = c.index_mut-marked.result.now in
    let here : get_or items c.args.number (filled [] []) ≡ x = get_or_default items c.args.number (filled [] []) x c.requires.inside ∙ sym c.index_mut-marked.ensures.value in
    c.requires.same ∙ ap (λ (m : Marked). outlines_of m.source) here

pub returns : goal.returns
returns c =
    let items : List Marked = c.args.parts.now.items in
    ap (λ (m : Marked). set items c.args.number m) c.set_part.ensures
    ∙ set-moved items c.args.number c.index_mut-marked.result.now (source_of c.args.part) c.requires.inside c.index_mut-marked.ensures.value
