use Rattle.std.proofs.Common.{◌≡◌, ℕ, List, [], get_or, sym, ap, subst, ◌∙◌}
use Rattle.std.specs.List.Sorted.{IsNonDecreasingBy}
use Rattle.std.proofs.lemmas.Map.Lookups.{exact_bytes}
use Rattle.ri_base.specs.Places.{postings_of}
use Rattle.ri_base.specs.Vocabulary.{IsVocabulary, vocabulary_of}
use Rattle.ri_base.specs.declared.places.Place.{Place}
use Rattle.ri_base.proofs.PlacesLemmas.{absent, postings_of-rise}
use Rattle.disk_index.proofs.PresenceLemmas.{postings-absent}
use Rattle.disk_index.proofs.presence.term_postings.Goals as goal

pub returns-in-Ok-clause-same : goal.returns-in-Ok-clause-same
returns-in-Ok-clause-same c =
    let D = c.args.sealed.now in
    let r = c.in-Ok.rank in
    let terms : c.as_slice.result.now ≡ vocabulary_of D = c.as_slice.ensures ∙ c.vocabulary.ensures.same in
    let found : get_or (vocabulary_of D) r [] ≡ c.args.term.now = subst (λ (l : List (List ℕ)). get_or l r [] ≡ c.args.term.now) terms (exact_bytes _ _ (c.in-Ok.ensures.ok [])) in
    c.as_slice-in-Ok.ensures ∙ c.postings.ensures ∙ ap (λ (t : List ℕ). postings_of t D) found

pub returns-in-Err-clause-same : goal.returns-in-Err-clause-same
returns-in-Err-clause-same c =
    let D = c.args.sealed.now in
    let t = c.args.term.now in
    let voc : IsVocabulary c.as_slice.result.now D = subst (λ (l : List (List ℕ)). IsVocabulary l D) (sym c.as_slice.ensures) c.vocabulary.ensures.distinct in
    sym (postings-absent t D (absent c.as_slice.result.now D t c.in-Err.field-0 voc c.in-Err.ensures.position))

pub returns-in-Ok-clause-rising : goal.returns-in-Ok-clause-rising
returns-in-Ok-clause-rising c =
    let D = c.args.sealed.now in
    subst (λ (ps : List Place). IsNonDecreasingBy (λ p. p.id) ps) (sym (c.as_slice-in-Ok.ensures ∙ c.postings.ensures)) (postings_of-rise (get_or (vocabulary_of D) c.in-Ok.rank []) D)
