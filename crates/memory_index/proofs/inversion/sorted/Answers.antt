use Rattle.std.proofs.Common.{◌≡◌, ◌+◌, List, [], ◌∷◌, ◌++◌, length, take, sym, ◌∙◌, ap, subst, arith}
use Rattle.std.specs.List.Sorted.{IsPermutation}
use Rattle.std.proofs.lemmas.List.{take_more, take_all, length-take-le}
use Rattle.memory_index.specs.Inverts.{numbered_from}
use Rattle.memory_index.specs.declared.numbered.Numbered.{Numbered}
use Rattle.memory_index.proofs.SortLemmas.{AreSorted-made, numbered_from-push}
use Rattle.memory_index.proofs.inversion.sorted.Goals as goal

pub loop-t-preserved : goal.loop-t-preserved
loop-t-preserved c =
    let i = c.loop-t.t-index in
    let ts = c.args.terms.now in
    let t = c.t-item.result in
    let e : take (i + 1) ts ≡ take i ts ++ t ∷ [] = take_more ts i t c.loop-t-test.true ∙ ap (λ x. take i ts ++ x ∷ []) (sym c.t-item.is) in
    let z : 0 + length (take i ts) ≡ c.loop-t.number = omega (arith, length-take-le i ts) in
    let whole : numbered_from 0 (take (i + 1) ts) ≡ numbered_from 0 (take i ts) ++ record { term = t; number = c.loop-t.number } ∷ [] =
    ap (numbered_from 0) e ∙ numbered_from-push 0 (take i ts) t ∙ ap (λ k. numbered_from 0 (take i ts) ++ record { term = t; number = k } ∷ []) z in
    record {
      number_is = omega arith;
      so_far = c.in_ok-push.ensures.items ∙ ap (λ x. c.loop-t.out.items ++ record { term = x; number = c.loop-t.number } ∷ []) c.in_ok-clone_in.ensures
          ∙ ap (λ l. l ++ record { term = t; number = c.loop-t.number } ∷ []) c.loop-t.invariant.so_far ∙ sym whole;
    }

pub returns : goal.returns
returns c =
    let ts = c.args.terms.now in
    let e : c.loop-t.out.items ≡ numbered_from 0 ts = c.loop-t.invariant.so_far ∙ ap (numbered_from 0) (take_all c.loop-t.t-index ts (omega arith)) in
    AreSorted-made ts _ c.requires.apart (subst (λ (l : List Numbered). IsPermutation l c.sort_unstable.new.self.items) e c.sort_unstable.ensures.permutation) c.sort_unstable.ensures.sorted
