-- documents whose docnos, names and terms were seen are documents of their form
use Rattle.std.proofs.Common.{◌≡◌, ◌≤◌, ◌<◌, ℕ, List, [], ◌∷◌, length, map, true, sym, subst, inl, inr}
use Rattle.std.specs.Prelude.{IsTrue}
use Rattle.std.specs.List.{All, Contains}
use Rattle.std.proofs.lemmas.List.{length-map}
use Rattle.std.proofs.lemmas.List.Elements.{All-contains, All-contains_itself, All-cons, All-head, All-nil, All-tail, All-weaker, Contains-append_left, Contains-append_right}
use Rattle.ri_base.specs.Collection.{field_names, name_count, names_of, token_count}
use Rattle.ri_base.specs.Documents.{Document, Field}
use Rattle.ri_base.specs.Text.{is_name, is_term}
use Rattle.ri_base.specs.Vocabulary.{Occurs, vocabulary_of}
use Rattle.ri_base.specs.declared.limits.TheConstants.{MAX_HELD_TOKENS, MAX_PART_DOCS, MAX_PART_NAMES}
use Rattle.ri_base.proofs.VocabularyLemmas.{IsVocabulary-vocabulary_of}
use Rattle.seg_codec.specs.Documents.{names_in_order}
use Rattle.seg_codec.specs.Part.{HasDocno, IsFormed, IsPart}
use Rattle.seg_codec.specs.Segment.{entry_of}
use Rattle.seg_codec.proofs.NameLemmas.{name_at, names_all}

all_formed : (docs : List Document) → All HasDocno docs → ((q : List ℕ) → Contains (field_names docs) q → is_name q ≡ true) → ((t : List ℕ) → Occurs t docs → is_term t ≡ true) → All IsFormed docs
all_formed [] h names terms = All-nil IsFormed
all_formed (d ∷ docs) h names terms =
    let one : HasDocno d = All-head HasDocno d docs h in
    All-cons IsFormed d docs
    (record {
      docno = one.docno;
      terms = All-weaker (Contains d.tokens) (λ t. IsTrue (is_term t)) (λ t c. terms t (inl c)) d.tokens (All-contains_itself d.tokens);
      names = All-weaker (Contains d.fields) (λ f. IsTrue (is_name f.name)) (λ f c. names f.name (Contains-append_left (names_of d.fields) (field_names docs) f.name (c.0, subst (λ n. c.0 < n) (sym (length-map d.fields (λ (f : Field). f.name))) c.1, name_at d.fields c.0 f c.2 c.1))) d.fields (All-contains_itself d.fields);
      sound = one.sound;
    })
    (all_formed docs (All-tail HasDocno d docs h) (λ q c. names q (Contains-append_right (names_of d.fields) (field_names docs) q c)) (λ t o. terms t (inr o)))

pub part_of : (docs : List Document) → length docs ≤ MAX_PART_DOCS → token_count docs ≤ MAX_HELD_TOKENS → name_count docs ≤ MAX_PART_NAMES → All HasDocno docs
    → All (λ n. IsTrue (is_name n)) (names_in_order (map entry_of docs)) → All (λ t. IsTrue (is_term t)) (vocabulary_of docs) → IsPart docs
part_of docs few short named h names terms = record {
  few = few;
  short = short;
  named = named;
  formed = all_formed docs h
      (λ q c. All-contains (λ n. IsTrue (is_name n)) (names_in_order (map entry_of docs)) q names (names_all docs q c))
      (λ t o. All-contains (λ t. IsTrue (is_term t)) (vocabulary_of docs) t terms ((IsVocabulary-vocabulary_of docs).all t o));
}
