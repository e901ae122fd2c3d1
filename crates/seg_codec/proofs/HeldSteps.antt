-- how documents are rebuilt one after the other, and what their answer says
use Rattle.std.proofs.Common.{◌≡◌, ◌<◌, ℕ, ◌+◌, List, [], ◌∷◌, ◌++◌, length, get_or, take, Option, Some, None, Result, Ok, Err, refl, sym, ap, subst, ◌∙◌, arith}
use Rattle.std.specs.Prelude.{IfNone, IfOk, IfSome, OnSome}
use Rattle.std.specs.List.{All}
use Rattle.std.proofs.lemmas.List.{get_or-map, get_or_default, length-map, length-take-le, map_more, take_more}
use Rattle.ri_base.specs.Documents.{Document}
use Rattle.ri_base.specs.Inversion.{by_number}
use Rattle.ri_base.specs.declared.places.Place.{Place}
use Rattle.seg_codec.specs.Held.{AreAgreed, AreOfPostings, AreRanked, Gap, Holds, IsClashing, IsKept, lengths, lengths_of, rebuilt, terms_of}
use Rattle.seg_codec.specs.declared.documents.Entry.{Entry}
use Rattle.seg_codec.specs.declared.whole.Whole.{Whole}
use Rattle.seg_codec.proofs.HeldLaws.{ranked_holds, ranks_long}
use Rattle.seg_codec.proofs.OnlyLaws.{no_clash, no_gap}

abbrev pub document_with : Entry → List (List ℕ) → Document
document_with e tokens = record { docno = e.docno; tokens = tokens; fields = e.fields }

rebuilt_push : (terms : List (List ℕ)) (es : List Entry) (ranks : List (List ℕ)) (e : Entry) (r : List ℕ) → length es ≡ length ranks
    → rebuilt terms (es ++ e ∷ []) (ranks ++ r ∷ []) ≡ rebuilt terms es ranks ++ document_with e (by_number terms r) ∷ []
rebuilt_push terms [] [] e r same = refl
rebuilt_push terms [] (q ∷ ranks) e r same = absurd (omega (arith, same))
rebuilt_push terms (x ∷ es) [] e r same = absurd (omega (arith, same))
rebuilt_push terms (x ∷ es) (q ∷ ranks) e r same = ap (λ (l : List Document). document_with x (by_number terms q) ∷ l) (rebuilt_push terms es ranks e r (omega (arith, same)))

-- one document more
pub rebuilt_more : (terms : List (List ℕ)) (es : List Entry) (ranks : List (List ℕ)) (i : ℕ) (e : Entry) (r : List ℕ) (tokens : List (List ℕ)) (d : Document) (before after : List Document) → i < length es → i < length ranks
    → e ≡ get_or es i e → r ≡ get_or ranks i r → tokens ≡ by_number terms r → d ≡ document_with e tokens → after ≡ before ++ d ∷ []
    → before ≡ rebuilt terms (take i es) (take i ranks) → after ≡ rebuilt terms (take (i + 1) es) (take (i + 1) ranks)
rebuilt_more terms es ranks i e r tokens d before after lt under e_is r_is tokens_is d_is put so_far =
    let es_are : take (i + 1) es ≡ take i es ++ e ∷ [] = take_more es i e lt ∙ ap (λ (x : Entry). take i es ++ x ∷ []) (sym e_is) in
    let ranks_are : take (i + 1) ranks ≡ take i ranks ++ r ∷ [] = take_more ranks i r under ∙ ap (λ (x : List ℕ). take i ranks ++ x ∷ []) (sym r_is) in
    let count : length (take i es) ≡ length (take i ranks) = omega (arith, length-take-le i es (omega arith), length-take-le i ranks (omega arith)) in
    let pushed : rebuilt terms (take (i + 1) es) (take (i + 1) ranks) ≡ rebuilt terms (take i es) (take i ranks) ++ document_with e (by_number terms r) ∷ [] =
    ap (λ (xs : List Entry). rebuilt terms xs (take (i + 1) ranks)) es_are ∙ ap (rebuilt terms (take i es ++ e ∷ [])) ranks_are ∙ rebuilt_push terms (take i es) (take i ranks) e r count in
    put ∙ ap (λ (x : List Document). x ++ d ∷ []) so_far ∙ ap (λ (x : Document). rebuilt terms (take i es) (take i ranks) ++ x ∷ []) (d_is ∙ ap (document_with e) tokens_is) ∙ sym pushed

-- one term more
pub terms_more : (terms : List (List ℕ)) (ranks : List ℕ) (i : ℕ) (d value : List ℕ) (before after : List (List ℕ)) → i < length ranks → get_or ranks i 0 < length terms → value ≡ get_or terms (get_or ranks i 0) d
    → after ≡ before ++ value ∷ [] → before ≡ by_number terms (take i ranks) → after ≡ by_number terms (take (i + 1) ranks)
terms_more terms ranks i d value before after lt below value_is put so_far =
    let rank : ℕ = get_or ranks i 0 in
    let term : value ≡ get_or terms rank [] = value_is ∙ get_or_default terms rank d [] below in
    put ∙ ap (λ (x : List (List ℕ)). x ++ value ∷ []) so_far ∙ ap (λ (x : List ℕ). by_number terms (take i ranks) ++ x ∷ []) term ∙ sym (map_more (λ n. get_or terms n []) ranks i 0 lt)

-- it has as many tokens as is known of it
pub tokens_counted : (terms : List (List ℕ)) (es : List Entry) (ranks : List (List ℕ)) (i : ℕ) (e : Entry) (r : List ℕ) (tokens : List (List ℕ)) → lengths ranks ≡ lengths_of es → i < length es → e ≡ get_or es i e → r ≡ get_or ranks i [] → tokens ≡ by_number terms r → length tokens ≡ e.tokens
tokens_counted terms es ranks i e r tokens shape lt e_is r_is tokens_are =
    ap length tokens_are ∙ length-map r (λ n. get_or terms n []) ∙ ap length r_is ∙ ranks_long es ranks i shape lt ∙ get_or-map (λ (x : Entry). x.tokens) es i e 0 lt ∙ ap (λ (x : Entry). x.tokens) (sym e_is)

-- ---- what an option holds

pub some_of : {X : Type 0} (o : Option X) (x : X) → o ≡ Some x → (P : X → Type 0) → IfSome o P → P x
some_of o x e P h = subst (λ o. IfSome o P) e h

pub none_of : {X : Type 0} (o : Option X) → o ≡ None → (P : Type 0) → IfNone o P → P
none_of o e P h = subst (λ o. IfNone o P) e h

-- ---- what the answer says, of ranks in a value

pub none_if_clash : (w : Whole) (docs : List Document) → IsKept w → IsClashing w.postings → Holds docs w → ⊥
none_if_clash w docs kept k h = no_clash w docs k.ranks kept h k.only k.filled k.clash

pub ranked_if_full : {V : Type 0} (items : V → List (List ℕ)) (w : Whole) (es : List Entry) (pss : List (List Place)) (ranks : List (List ℕ)) (answer : Option V) → es ≡ w.documents → pss ≡ w.postings
    → lengths ranks ≡ lengths_of es → AreOfPostings pss ranks → AreAgreed pss ranks → IfSome answer (λ v. items v ≡ ranks) → OnSome answer (All (λ (rs : List ℕ). All (λ r. r < length pss) rs) ranks)
    → IfSome answer (λ v. AreRanked w (items v))
ranked_if_full items w es pss ranks (Some v) es_are pss_are shape only each same full =
    subst (AreRanked w) (sym same)
    (record {
      shape = shape ∙ ap lengths_of es_are;
      only = subst (λ (x : List (List Place)). AreOfPostings x ranks) pss_are only;
      each = subst (λ (x : List (List Place)). AreAgreed x ranks) pss_are each;
      full = subst (λ (x : List (List Place)). All (λ (rs : List ℕ). All (λ r. r < length x) rs) ranks) pss_are full;
    })
ranked_if_full items w es pss ranks None es_are pss_are shape only each same full = tt

pub none_if_gap : {V : Type 0} (w : Whole) (es : List Entry) (pss : List (List Place)) (ranks : List (List ℕ)) (answer : Option V) → es ≡ w.documents → pss ≡ w.postings → lengths ranks ≡ lengths_of es → AreAgreed pss ranks
    → IfNone answer (Gap (length pss) ranks) → IfNone answer ((docs : List Document) → Holds docs w → ⊥)
none_if_gap w es pss ranks (Some v) es_are pss_are shape each gap = tt
none_if_gap w es pss ranks None es_are pss_are shape each gap =
    λ docs h. no_gap w docs ranks h (shape ∙ ap lengths_of es_are) (subst (λ (x : List (List Place)). AreAgreed x ranks) pss_are each) (subst (λ (x : List (List Place)). Gap (length x) ranks) pss_are gap)

pub held_if_rebuilt : {E : Type 0} (w : Whole) (ranks : List (List ℕ)) (ts : List (List ℕ)) (es : List Entry) (answer : Result (List Document) E) → IsKept w → AreRanked w ranks → ts ≡ terms_of w.terms → es ≡ w.documents
    → IfOk answer (λ docs. docs ≡ rebuilt ts es ranks) → IfOk answer (λ docs. Holds docs w)
held_if_rebuilt w ranks ts es (Ok docs) kept ranked ts_are es_are found =
    let are : docs ≡ rebuilt (terms_of w.terms) w.documents ranks = found ∙ ap (λ (x : List (List ℕ)). rebuilt x es ranks) ts_are ∙ ap (λ (x : List Entry). rebuilt (terms_of w.terms) x ranks) es_are in
    subst (λ (x : List Document). Holds x w) (sym are) (ranked_holds w ranks kept ranked)
held_if_rebuilt w ranks ts es (Err e) kept ranked ts_are es_are found = tt
