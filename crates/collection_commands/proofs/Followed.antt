-- A list that is taken from an input, one after the other: these were taken, and what is unread has the others.
use Rattle.std.proofs.Common.{◌≡◌, ◌∙◌, ℕ, List, [], ◌∷◌, ◌++◌, Option, None, Some, ap, subst, sym, append-nil, append_assoc}
use Rattle.std.specs.Option.{IfSome, option_map}

module _ {A : Type 0} (whole : List ℕ → List A) (done : List A) (left : List ℕ → List A) where
  -- one more is taken
  pub more-taken : (a : A) (next : List ℕ → List A) (old new start : Option (List ℕ)) → option_map (λ rest. done ++ left rest) old ≡ option_map whole start → option_map left old ≡ option_map (λ rest. a ∷ next rest) new
      → option_map (λ rest. (done ++ a ∷ []) ++ next rest) new ≡ option_map whole start
  more-taken a next None None start f e = f
  more-taken a next None (Some ys) start f e = cc
  more-taken a next (Some xs) None start f e = cc
  more-taken a next (Some xs) (Some ys) start f e =
      let one : left xs ≡ a ∷ next ys = cc in
      ap Some (append_assoc done (a ∷ []) (next ys) ∙ ap (λ rest. done ++ rest) (sym one)) ∙ f

  -- What holds of those that were taken, however the input goes on, holds of all.
  pub some-taken : (Q : List A → Type 0) (unread start : Option (List ℕ)) → option_map (λ rest. done ++ left rest) unread ≡ option_map whole start → ((rest : List A) → Q (done ++ rest)) → IfSome start (λ bytes. Q (whole bytes))
  some-taken Q unread None f q = tt
  some-taken Q None (Some bytes) f q = cc
  some-taken Q (Some ys) (Some bytes) f q =
      let all : done ++ left ys ≡ whole bytes = cc in
      subst Q all (q (left ys))

  -- The input ends.
  pub all-taken : (Q : List A → Type 0) (old new start : Option (List ℕ)) → option_map (λ rest. done ++ left rest) old ≡ option_map whole start → option_map left old ≡ option_map (λ rest. []) new → Q done → IfSome start (λ bytes. Q (whole bytes))
  all-taken Q old new None f e q = tt
  all-taken Q None new (Some bytes) f e q = cc
  all-taken Q (Some xs) None (Some bytes) f e q = cc
  all-taken Q (Some xs) (Some ys) (Some bytes) f e q =
      let none : left xs ≡ [] = cc in
      let all : done ++ left xs ≡ whole bytes = cc in
      subst Q (sym (append-nil done) ∙ ap (λ rest. done ++ rest) (sym none) ∙ all) q
