use Rattle.std.proofs.Common.{◌≡◌, List, ℕ, length, sym, ap, subst, ◌∙◌}
use Rattle.std.specs.List.{All}
use Rattle.seg_codec.specs.Held.{IsWithin, lengths, lengths_of}
use Rattle.seg_codec.proofs.RankLemmas.{untold_lengths, untold_only}
use Rattle.seg_codec.proofs.ranks.ranks_at.Goals as goal

pub tell_all-requires-clause-within : goal.tell_all-requires-clause-within
tell_all-requires-clause-within c =
    let shape : lengths c.in_ok-ranks.ranks.items ≡ lengths_of c.args.documents.now = ap lengths c.in_ok-ranks.ensures ∙ untold_lengths c.args.documents.now (length c.args.postings.now) in
    subst (λ (ls : List ℕ). All (All (IsWithin ls)) c.args.postings.now) (sym shape) c.requires.within

pub tell_all-requires-clause-only : goal.tell_all-requires-clause-only
tell_all-requires-clause-only c = untold_only c.args.documents.now c.args.postings.now c.in_ok-ranks.ranks.items c.in_ok-ranks.ensures

pub are_agreed-requires-clause-within : goal.are_agreed-requires-clause-within
are_agreed-requires-clause-within c =
    let shape : lengths c.deref.result.now ≡ lengths_of c.args.documents.now =
    ap lengths c.deref.ensures.value ∙ c.tell_all.ensures.shape ∙ ap lengths c.in_ok-ranks.ensures ∙ untold_lengths c.args.documents.now (length c.args.postings.now) in
    subst (λ (ls : List ℕ). All (All (IsWithin ls)) c.args.postings.now) (sym shape) c.requires.within

pub returns-then-are_agreed-clause-shape : goal.returns-then-are_agreed-clause-shape
returns-then-are_agreed-clause-shape c = c.tell_all.ensures.shape ∙ ap lengths c.in_ok-ranks.ensures ∙ untold_lengths c.args.documents.now (length c.args.postings.now)
