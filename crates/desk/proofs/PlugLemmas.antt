-- Plugs that are given the rows of priors, each the rows of the prior of its place.
use Rattle.std.proofs.Common.{◌≡◌, ◌<◌, ◌+◌, ℕ, zero, suc, List, [], ◌∷◌, ◌++◌, Option, Contains, drop, get_or, length, map, take, set, refl, sym, ap, subst, ◌∙◌, arith}
use Rattle.std.specs.Prelude.{slice_set}
use Rattle.std.specs.List.{AllZip, repeat}
use Rattle.std.proofs.Math.Seq.{get_or-append_seam, set-append_seam}
use Rattle.std.proofs.lemmas.List.{append_assoc, at_drop_more, get_or-map, length-map, length-take-le, map-append, map-set, take_all}
use Rattle.std.proofs.lemmas.List.Elements.{Contains-get_or}
use Rattle.std.proofs.lemmas.Slice.Zip.{AllZip-long}
use Rattle.store_ends.specs.Files.{Files}
use Rattle.belief_nodes.specs.Priors.{Prior, no_prior}
use Rattle.manifest.specs.Priors.{PriorTable}
use Rattle.manifest.specs.declared.manifest.PriorEntry.{PriorEntry}
use Rattle.repository.specs.Stands.{IsPriorRead, Prior as Kept}
use Rattle.desk.specs.Priors.{kept_prior, length_prior, priors_with, run_priors}
use Rattle.desk.proofs.ListLemmas.{mapped-more, read-inside, taken-more, zip-push}

abbrev pub told_prior : Kept → Prior
told_prior p = kept_prior p.table

first-ones : {X : Type 0} (m n : ℕ) (x : X) (rest : List X) → n < m → get_or (repeat m (x ∷ []) ++ rest) n x ≡ x
first-ones zero n x rest less = absurd (omega (arith, less))
first-ones (suc m) zero x rest less = refl
first-ones (suc m) (suc n) x rest less = first-ones m n x rest (omega (arith, less))

-- the plug behind the first n is a table without rows
free-from : (n : ℕ) → n < 8 → drop n run_priors ≡ no_prior ∷ drop (n + 1) run_priors
free-from n few =
    let nine : length run_priors ≡ 9 = refl in
    at_drop_more (λ ps. ps) run_priors n no_prior (omega (arith, few, nine)) ∙ ap (λ p. p ∷ drop (n + 1) run_priors) (first-ones 8 n no_prior (length_prior ∷ []) few)

module _ {B : Type 0} (f : B → Prior) (plugs : List B) (n : ℕ) (few : n < 8) where
  split : (front : List Prior) → map f plugs ≡ front ++ drop n run_priors → map f plugs ≡ front ++ no_prior ∷ drop (n + 1) run_priors
  split front is = is ∙ ap (λ ps. front ++ ps) (free-from n few)

  pub is-free : (front : List Prior) (plug : B) → n < length plugs → length front ≡ n → map f plugs ≡ front ++ drop n run_priors → f (get_or plugs n plug) ≡ no_prior
  is-free front plug inside long is =
      sym (get_or-map f plugs n plug no_prior inside) ∙ ap (λ ps. get_or ps n no_prior) (split front is)
      ∙ subst (λ (k : ℕ). get_or (front ++ no_prior ∷ drop (n + 1) run_priors) k no_prior ≡ no_prior) long (get_or-append_seam front no_prior (drop (n + 1) run_priors) no_prior)

  -- one plug more
  pub plug-next : (front : List Prior) (new : B) (p : Prior) → length front ≡ n → map f plugs ≡ front ++ drop n run_priors → f new ≡ p → map f (slice_set plugs n new) ≡ (front ++ p ∷ []) ++ drop (n + 1) run_priors
  plug-next front new p long is told =
      map-set f plugs n new ∙ ap (λ ps. set ps n (f new)) (split front is)
      ∙ subst (λ (k : ℕ). set (front ++ no_prior ∷ drop (n + 1) run_priors) k (f new) ≡ front ++ f new ∷ drop (n + 1) run_priors) long (set-append_seam front no_prior (drop (n + 1) run_priors) (f new))
      ∙ ap (λ q. front ++ q ∷ drop (n + 1) run_priors) told
      ∙ sym (append_assoc front (p ∷ []) (drop (n + 1) run_priors))

  pub reads-next : (ps : List Kept) (new : B) (rows : PriorTable) → n < length ps → map f plugs ≡ map told_prior (take n ps) ++ drop n run_priors → f new ≡ kept_prior rows
      → ((p : Kept) → p ≡ get_or ps n p → rows ≡ p.table) → map f (slice_set plugs n new) ≡ map told_prior (take (n + 1) ps) ++ drop (n + 1) run_priors
  reads-next ps new rows inside is told own =
      let none : Kept = record { name = []; table = rows } in
      let p : Kept = get_or ps n none in
      let at : p ≡ get_or ps n p = read-inside ps n none p inside in
      plug-next (map told_prior (take n ps)) new (told_prior p) (length-map (take n ps) told_prior ∙ length-take-le n ps (omega (arith, inside))) is (told ∙ ap kept_prior (own p at))
      ∙ ap (λ qs. qs ++ drop (n + 1) run_priors) (sym (mapped-more told_prior ps n p inside at))

  pub listed-next : (files : Option Files) (es : List PriorEntry) (qs : List Kept) (new : B) (rows : PriorTable) → n < length es → AllZip (IsPriorRead files) (take n es) qs
      → map f plugs ≡ map told_prior qs ++ drop n run_priors → f new ≡ kept_prior rows → ((e : PriorEntry) → e ≡ get_or es n e → IsPriorRead files e (record { name = e.name; table = rows }))
      → (ps : List Kept) × AllZip (IsPriorRead files) (take (n + 1) es) ps × (map f (slice_set plugs n new) ≡ map told_prior ps ++ drop (n + 1) run_priors)
  listed-next files es qs new rows inside listed is told own =
      let none : PriorEntry = record { name = []; number = 0 } in
      let e : PriorEntry = get_or es n none in
      let at : e ≡ get_or es n e = read-inside es n none e inside in
      let p : Kept = record { name = e.name; table = rows } in
      let long : length qs ≡ n = AllZip-long (IsPriorRead files) (take n es) qs listed ∙ length-take-le n es (omega (arith, inside)) in (
        qs ++ p ∷ [],
        subst (λ (xs : List PriorEntry). AllZip (IsPriorRead files) xs (qs ++ p ∷ [])) (sym (taken-more es n e inside at)) (zip-push (IsPriorRead files) (take n es) qs e p listed (own e at)),
        plug-next (map told_prior qs) new (told_prior p) (length-map qs told_prior ∙ long) is told ∙ ap (λ xs. xs ++ drop (n + 1) run_priors) (sym (map-append told_prior qs (p ∷ []))),
      )

-- an entry of the list
pub entry-at : (es : List PriorEntry) (n : ℕ) → n < length es → (e : PriorEntry) × (e ≡ get_or es n e) × Contains es e
entry-at es n inside =
    let none : PriorEntry = record { name = []; number = 0 } in
    (get_or es n none, read-inside es n none (get_or es n none) inside, Contains-get_or es n none inside)

-- all of them
pub priors-all : (ps : List Kept) (n : ℕ) → n ≡ length ps → map told_prior (take n ps) ++ drop n run_priors ≡ priors_with ps
priors-all ps n all = ap (λ m. map told_prior (take m ps) ++ drop m run_priors) all ∙ ap (λ qs. map told_prior qs ++ drop (length ps) run_priors) (take_all (length ps) ps (omega arith))
