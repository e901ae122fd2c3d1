use Rattle.std.proofs.Common.{Some, ap, sym, ◌∙◌}
use Rattle.std.proofs.lemmas.List.{get_or_default}
use Rattle.disk_index.proofs.LookupLemmas.{term_at-same}
use Rattle.disk_index.proofs.lookup.blocks_of.Goals as goal

pub returns-then-eq : goal.returns-then-eq
returns-then-eq c =
    let compared = c.index-dictionary-rank.result in
    let item = c.index-dictionary-rank-then-eq.result in
    let rank = c.rank_by_front-rank.result in
    ap Some (c.index-dictionary-rank-then-eq.is ∙ get_or_default c.args.dictionary.now rank item compared c.if-rank-dictionary.true)
    ∙ sym (term_at-same c.args.dictionary.now c.args.term.now rank compared c.requires c.if-rank-dictionary.true (sym c.eq.ensures ∙ c.if-eq.true))
