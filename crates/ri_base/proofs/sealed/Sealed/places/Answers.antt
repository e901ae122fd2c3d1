use Rattle.std.proofs.Common.{◌≡◌, ◌<◌, List, ℕ, [], length, get_or, IfOk, sym, ◌∙◌, ap, subst}
use Rattle.std.specs.List.Sorted.{IsNonDecreasingBy}
use Rattle.std.proofs.lemmas.Map.Lookups.{exact_bytes}
use Rattle.ri_base.specs.Collection.{document_at}
use Rattle.ri_base.specs.Places.{places, places_at, postings_of}
use Rattle.ri_base.specs.Vocabulary.{IsVocabulary}
use Rattle.ri_base.specs.declared.places.Place.{Place}
use Rattle.ri_base.proofs.InversionLemmas.{postings_at, vocabulary}
use Rattle.ri_base.proofs.PlacesLemmas.{absent, places-absent, places_at-postings, postings_of-rise}
use Rattle.ri_base.proofs.sealed.Sealed.places.Goals as goal

pub places_in-requires : goal.places_in-requires
places_in-requires c =
    let v = c.self.inside.vocabulary in
    let r = c.in-Ok.rank in
    let inside : r < length v = subst (λ (l : List (List ℕ)). r < length l) c.as_slice.ensures c.in-Ok.ensures.bound in
    let here = postings_at _ _ _ _ _ c.self.invariant c.self.view_is r c.index.result.now inside in
    subst (λ (ps : List Place). IsNonDecreasingBy (λ p. p.id) ps) (sym (c.as_slice-in-Ok.ensures ∙ c.index.ensures ∙ here)) (postings_of-rise (get_or v r []) c.args.self.now)

pub returns-in-Ok : goal.returns-in-Ok
returns-in-Ok c =
    let v = c.self.inside.vocabulary in
    let D = c.args.self.now in
    let r = c.in-Ok.rank in
    let inside : r < length v = subst (λ (l : List (List ℕ)). r < length l) c.as_slice.ensures c.in-Ok.ensures.bound in
    let found : get_or v r [] ≡ c.args.term.now = subst (λ (l : List (List ℕ)). get_or l r [] ≡ c.args.term.now) c.as_slice.ensures (exact_bytes _ _ (c.in-Ok.ensures.ok [])) in
    let here : c.as_slice-in-Ok.result.now ≡ postings_of c.args.term.now D =
    c.as_slice-in-Ok.ensures ∙ c.index.ensures ∙ postings_at _ _ _ _ _ c.self.invariant c.self.view_is r c.index.result.now inside ∙ ap (λ (t : List ℕ). postings_of t D) found in
    let e : places_at c.args.id c.as_slice-in-Ok.result.now ≡ places c.args.term.now (document_at D c.args.id) = ap (places_at c.args.id) here ∙ places_at-postings c.args.id c.args.term.now D c.requires in
    subst (λ (l : List ℕ). IfOk c.places_in.result (λ ps. ps ≡ l)) e c.places_in.ensures

pub returns-in-Err : goal.returns-in-Err
returns-in-Err c =
    let D = c.args.self.now in
    let t = c.args.term.now in
    let voc : IsVocabulary c.self.inside.vocabulary D = vocabulary _ _ _ _ _ c.self.invariant c.self.view_is in
    let voc2 : IsVocabulary c.as_slice.result.now D = subst (λ (l : List (List ℕ)). IsVocabulary l D) (sym c.as_slice.ensures) voc in
    c.of.ensures ∙ c.new.ensures.items ∙ sym (places-absent c.args.id t D c.requires (absent c.as_slice.result.now D t c.in-Err.field-0 voc2 c.in-Err.ensures.position))
