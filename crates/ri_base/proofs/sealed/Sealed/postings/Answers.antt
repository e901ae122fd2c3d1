use Rattle.std.proofs.Common.{◌<◌, List, ℕ, [], length, get_or, rules, sym, ap, subst, ◌∙◌}
use Rattle.ri_base.specs.Places.{postings_of}
use Rattle.ri_base.proofs.InversionLemmas.{postings_at, ranks_within, vocabulary-same}
use Rattle.ri_base.proofs.sealed.Sealed.postings.Goals as goal

pub index-requires : goal.index-requires
index-requires c =
    let same = vocabulary-same _ _ _ _ _ c.self.invariant c.self.view_is in
    let inside : c.args.rank < length c.self.inside.postings.items =
    ranks_within _ _ _ _ _ c.self.invariant c.self.view_is c.args.rank (subst (λ (l : List (List ℕ)). c.args.rank < length l) (sym same) c.requires) in
    search (rules, inside)

pub returns : goal.returns
returns c =
    let same = vocabulary-same _ _ _ _ _ c.self.invariant c.self.view_is in
    let inside : c.args.rank < length c.self.inside.vocabulary = subst (λ (l : List (List ℕ)). c.args.rank < length l) (sym same) c.requires in
    c.index.ensures ∙ postings_at _ _ _ _ _ c.self.invariant c.self.view_is c.args.rank c.index.result.now inside
    ∙ ap (λ (l : List (List ℕ)). postings_of (get_or l c.args.rank []) c.args.self.now) same
