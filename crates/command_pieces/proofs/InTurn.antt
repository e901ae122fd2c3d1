-- What is written of items, one behind the other, and of one more.
use Rattle.std.proofs.Common.{◌≡◌, ℕ, Bool, ◌||◌, List, [], ◌∷◌, ◌++◌, fold, refl, ap, sym, ◌∙◌, subst, Option, append_assoc, append-nil}
use Rattle.std.proofs.lemmas.List.Sums.{fold-append}
use Rattle.command_pieces.specs.Faults.{IsCut}
use Rattle.command_pieces.specs.Pieces.{Piece, pieces_in_turn, some_refused}
use Rattle.command_pieces.specs.Written.{AllWritten, Plain}
use Rattle.command_pieces.specs.declared.fault.Fault.{Fault}
use Rattle.command_pieces.proofs.Cut.{all-then, cut-more, cut-then}
use Rattle.command_pieces.proofs.Joining.{refused-append}

module _ {S I P : Type 0} (next : S → I → S) (one : S → I → List P) where
  pub turns-append : (s : S) (xs ys : List I) → pieces_in_turn next one s (xs ++ ys) ≡ pieces_in_turn next one s xs ++ pieces_in_turn next one (fold next s xs) ys
  turns-append s [] ys = refl
  turns-append s (x ∷ xs) ys = ap (λ ps. one s x ++ ps) (turns-append (next s x) xs ys) ∙ sym (append_assoc (one s x) _ _)

  pub turns-next : (s : S) (done : List I) (i : I) → pieces_in_turn next one s done ++ one (fold next s done) i ≡ pieces_in_turn next one s (done ++ i ∷ [])
  turns-next s done i = ap (λ ps. pieces_in_turn next one s done ++ ps) (sym (append-nil (one (fold next s done) i))) ∙ sym (turns-append s done (i ∷ []))

pub state-next : {S I : Type 0} (next : S → I → S) (s : S) (done : List I) (i : I) → next (fold next s done) i ≡ fold next s (done ++ i ∷ [])
state-next next s done i = sym (fold-append next s done (i ∷ []))

pub refused-turn : {S I C : Type 0} (next : S → I → S) (one : S → I → List (Piece C)) (s : S) (done : List I) (i : I) (noted refused : Bool)
    → noted ≡ some_refused (pieces_in_turn next one s done) → refused ≡ some_refused (one (fold next s done) i) → (noted || refused) ≡ some_refused (pieces_in_turn next one s (done ++ i ∷ []))
refused-turn next one s done i noted refused n r =
    ap (λ b. b || refused) n ∙ ap (λ b. some_refused (pieces_in_turn next one s done) || b) r
    ∙ sym (refused-append (pieces_in_turn next one s done) (one (fold next s done) i)) ∙ ap some_refused (turns-next next one s done i)

module _ {S I : Type 0} (next : S → I → S) (one : S → I → List Plain) (s : S) (done : List I) (i : I) (before mid now : Option (List ℕ)) (a : AllWritten (pieces_in_turn next one s done) before mid) where
  pub written-turn : AllWritten (one (fold next s done) i) mid now → AllWritten (pieces_in_turn next one s (done ++ i ∷ [])) before now
  written-turn b = subst (λ ps. AllWritten ps before now) (turns-next next one s done i) (all-then (pieces_in_turn next one s done) (one (fold next s done) i) before mid now a b)

  -- It is broken off, and further pieces would have followed.
  pub cut-turn : (e : Fault) (more : List Plain) → IsCut e (one (fold next s done) i) mid now → IsCut e (pieces_in_turn next one s (done ++ i ∷ []) ++ more) before now
  cut-turn e more b =
      subst (λ ps. IsCut e (ps ++ more) before now) (turns-next next one s done i)
      (cut-more e (pieces_in_turn next one s done ++ one (fold next s done) i) more before now (cut-then e (pieces_in_turn next one s done) (one (fold next s done) i) before mid now a b))
