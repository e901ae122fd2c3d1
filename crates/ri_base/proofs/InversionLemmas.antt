-- what an inversion says of the documents that it stands for
use Rattle.std.proofs.Common.{◌≡◌, ◌<◌, ◌≤◌, ◌+◌, ℕ, List, [], ◌∷◌, length, map, sum_by, get_or, refl, sym, ap, subst, ◌∙◌, arith}
use Rattle.std.proofs.lemmas.List.{get_or-map, length-map}
use Rattle.std.proofs.lemmas.List.Sums.{sum_by-cons}
use Rattle.ri_base.specs.Collection.{token_count}
use Rattle.ri_base.specs.Documents.{Document}
use Rattle.ri_base.specs.Inversion.{IsInversion, by_number, document_of, documents_of}
use Rattle.ri_base.specs.Places.{postings_of}
use Rattle.ri_base.specs.Vocabulary.{IsVocabulary, vocabulary_of}
use Rattle.ri_base.specs.declared.held.Held.{Held}
use Rattle.ri_base.specs.declared.places.Place.{Place}
use Rattle.ri_base.proofs.VocabularyLemmas.{IsVocabulary-same}
use Rattle.ri_base.specs.declared.limits.TheConstants.{MAX_HELD_TOKENS}

-- how many tokens one of the documents has
abbrev pub held_tokens : Held → ℕ
held_tokens h = length h.tokens.items

-- the tokens of all that stand for documents are those of the documents
pub tokens_of_all : (terms : List (List ℕ)) (held : List Held) → sum_by held_tokens held ≡ token_count (documents_of terms held)
tokens_of_all terms [] = refl
tokens_of_all terms (h ∷ hs) =
    sum_by-cons held_tokens h hs ∙ ap (λ n. held_tokens h + n) (tokens_of_all terms hs)
    ∙ ap (λ n. n + token_count (documents_of terms hs)) (sym (length-map h.tokens.items (λ n. get_or terms n [])))
    ∙ sym (sum_by-cons (λ (d : Document). length d.tokens) (document_of terms h) (documents_of terms hs))

module _ (v : List (List ℕ)) (ranks : List ℕ) (held : List Held) (ps : List (List Place)) (docs : List Document) (inverts : IsInversion v ranks held ps)
    (is : documents_of (by_number v ranks) held ≡ docs) where
  pub vocabulary : IsVocabulary v docs
  vocabulary = subst (λ (ds : List Document). IsVocabulary v ds) is inverts.terms

  pub vocabulary-same : v ≡ vocabulary_of docs
  vocabulary-same = IsVocabulary-same v docs vocabulary

  each : ps ≡ map (λ t. postings_of t docs) v
  each = inverts.each ∙ ap (λ (ds : List Document). map (λ t. postings_of t ds) v) is

  pub ranks_within : (rank : ℕ) → rank < length v → rank < length ps
  ranks_within rank inside =
      let len : length ps ≡ length v = ap length each ∙ length-map v (λ t. postings_of t docs) in
      omega (arith, inside, len)

  -- the list at a rank is the postings of the term of that rank
  pub postings_at : (rank : ℕ) (d : List Place) → rank < length v → get_or ps rank d ≡ postings_of (get_or v rank []) docs
  postings_at rank d inside = ap (λ (l : List (List Place)). get_or l rank d) each ∙ get_or-map (λ t. postings_of t docs) v rank [] d inside

  -- how many tokens the documents have
  pub counted : sum_by held_tokens held ≡ token_count docs
  counted = tokens_of_all (by_number v ranks) held ∙ ap token_count is

  pub fits_in_part : sum_by held_tokens held ≤ MAX_HELD_TOKENS
  fits_in_part =
      let here = tokens_of_all (by_number v ranks) held in
      let fits = inverts.fits in
      omega (arith, here, fits)
