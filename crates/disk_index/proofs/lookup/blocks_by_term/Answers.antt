use Rattle.std.proofs.Common.{Some, ap, sym, ◌∙◌, rules}
use Rattle.std.specs.Cmp.Lexicographic.{slice_cmp}
use Rattle.std.specs.Ordering.{nat_cmp}
use Rattle.std.proofs.lemmas.Fn.{always_returns_same}
use Rattle.disk_index.proofs.LookupLemmas.{term_at-found, term_at-none}
use Rattle.disk_index.proofs.lookup.blocks_by_term.Goals as goal

pub returns-in-Ok : goal.returns-in-Ok
returns-in-Ok c =
    let found = c.in-Ok.ensures.position (λ t. slice_cmp nat_cmp t.term c.args.term.now) (always_returns_same _ _ _ (λ a r g called. search rules)) in
    let item = c.index-dictionary-rank.result in
    ap Some c.index-dictionary-rank.is ∙ sym (term_at-found c.args.dictionary.now c.args.term.now c.in-Ok.rank c.requires item c.in-Ok.ensures.bound found)

pub returns-in-Err : goal.returns-in-Err
returns-in-Err c =
    let found = c.in-Err.ensures.position (λ t. slice_cmp nat_cmp t.term c.args.term.now) (always_returns_same _ _ _ (λ a r g called. search rules)) in
    sym (term_at-none c.args.dictionary.now c.args.term.now _ c.requires found)
