use Rattle.std.proofs.Common.{None, inl, inr, ap, ◌∙◌, arith}
use Rattle.disk_index.specs.Parts.{size}
use Rattle.disk_index.proofs.LiveLemmas.{documents-more, tokens-more}
use Rattle.disk_index.proofs.snapshot.fits_snapshot.Goals as goal

pub returns-then-documents-from-clause-no : goal.returns-then-documents-from-clause-no
returns-then-documents-from-clause-no c = λ s.
    let ms = c.args.parts.now in
    let i = c.loop-part.part-index in
    let docs = documents-more ms i c.part-item.result c.loop-part-test.true c.part-item.is in
    let tokens = tokens-more None ms i c.part-item.result c.loop-part-test.true c.part-item.is in
    let own = c.docs.ensures.size ∙ ap size c.part.ensures.part in
    let so_far = c.loop-part.invariant.documents in
    let before = c.loop-part.invariant.tokens None in
    let short = s.short None in
    let held = c.held_tokens.ensures None in
    absurd (elim c.then-documents-from.either [
      | inl many ↦ omega (arith, docs, s.few, so_far, own, c.from-documents.ensures, c.from.ensures, many)
      | inr long ↦ omega (arith, tokens, short, before, held, c.saturating_add-tokens.ensures, long)
    ])
