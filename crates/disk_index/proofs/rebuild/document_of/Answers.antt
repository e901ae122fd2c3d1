use Rattle.std.proofs.Common.{length, sym, ap, ◌∙◌}
use Rattle.disk_index.specs.Rebuild.{Slots}
use Rattle.disk_index.proofs.RebuildLemmas.{terms-length}
use Rattle.disk_index.proofs.rebuild.document_of.Goals as goal

pub with_tokens-requires-clause-size : goal.with_tokens-requires-clause-size
with_tokens-requires-clause-size c =
    terms-length c.args.dictionary.now c.as_slice.result.now c.in-Some.tokens (sym c.in_ok-tokens.ensures ∙ c.in-Some.is) ∙ ap (λ (l : Slots). length l) c.as_slice.ensures ∙ c.requires.size
