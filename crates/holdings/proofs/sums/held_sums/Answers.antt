use Rattle.std.proofs.Common.{ap, arith}
use Rattle.std.proofs.lemmas.List.Sums.{sum_by_more}
use Rattle.disk_index.specs.Parts.{size}
use Rattle.disk_index.specs.Snapshots.{Marked}
use Rattle.holdings.specs.MarkedParts.{tokens_in}
use Rattle.holdings.proofs.sums.held_sums.Goals as goal

pub loop-marked-preserved : goal.loop-marked-preserved
loop-marked-preserved c =
    let inv = c.loop-marked.invariant in
    let m = c.marked-item.result in
    let is = ap (λ (m : Marked). m.source) c.marked-item.is in
    let documents = sum_by_more (λ (m : Marked). size m.source) c.args.parts.now c.loop-marked.marked-index m c.loop-marked-test.true in
    let tokens = sum_by_more (λ (m : Marked). tokens_in m.source) c.args.parts.now c.loop-marked.marked-index m c.loop-marked-test.true in
    record {
      counts = (let n = inv.counts in omega (arith, n));
      documents = omega (arith, inv.documents, documents, ap size is, ap size c.part-part.ensures.part, c.docs.ensures.size, c.from-documents.ensures);
      tokens = omega (arith, inv.tokens, tokens, ap tokens_in is, ap tokens_in c.part-part.ensures.part, c.tokens_of-tokens.ensures.exact);
      documents_fit = omega arith;
      tokens_fit = omega arith;
    }
