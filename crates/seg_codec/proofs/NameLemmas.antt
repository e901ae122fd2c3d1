-- the names of fields in order, and their numbers
use Rattle.std.proofs.Common.{◌≡◌, ◌≢◌, ◌<◌, ◌⊎◌, ℕ, zero, suc, List, [], ◌∷◌, length, get_or, map, Bool, true, false, cond, Err, refl, sym, ap, subst, ◌∙◌, inl, inr, arith}
use Rattle.std.specs.Cmp.Lexicographic.{slice_cmp}
use Rattle.std.specs.List.{Contains}
use Rattle.std.specs.List.Sorted.{IsBinarySearchResult, IsStrictlySortedBy}
use Rattle.std.specs.Ordering.{nat_cmp}
use Rattle.std.specs.Set.{is_member}
use Rattle.std.specs.Str.{bytes_eq}
use Rattle.std.specs.declared.cmp.Ordering.TheVariants.{Less, Equal}
use Rattle.std.proofs.lemmas.Bool.{cases_order}
use Rattle.std.proofs.lemmas.Bool.Decides.{Decides-like, same_from_decides}
use Rattle.std.proofs.lemmas.Cmp.{nat_list_cmp_total, nat_list_eq_equiv, tied_itself}
use Rattle.std.proofs.lemmas.List.Elements.{Contains-append_cases, Contains-append_left, Contains-append_right, All-contains, All-contains_itself, All-weaker}
use Rattle.std.proofs.lemmas.Map.Keys.{Less-from_sorted}
use Rattle.std.proofs.lemmas.Map.Made.{IsDistinct-from_AllPairs, is_member-Decides, length-from_keys}
use Rattle.std.proofs.lemmas.Slice.Eq.{bytes_eq-Decides}
use Rattle.ri_base.specs.Collection.{field_names, name_count, names_of}
use Rattle.ri_base.specs.Documents.{Document, Field}
use Rattle.ri_base.specs.Vocabulary.{IsVocabulary, Occurs, vocabulary_of, with_terms}
use Rattle.ri_base.proofs.ListLemmas.{Contains-cases, Contains-here, Contains-later, Contains-none}
use Rattle.ri_base.proofs.PlacesLemmas.{absent}
use Rattle.ri_base.proofs.VocabularyLemmas.{IsVocabulary-vocabulary_of}
use Rattle.ri_base.proofs.Order.{same_itself}
use Rattle.seg_codec.specs.Documents.{names_in_order}
use Rattle.seg_codec.specs.Segment.{entry_of}
use Rattle.seg_codec.specs.Spelling.{number_of}
use Rattle.seg_codec.specs.declared.documents.Entry.{Entry}
use Rattle.seg_codec.proofs.DictionaryFits.{vocabulary_rises}

-- the names as tokens
abbrev as_tokens : Entry → Document
as_tokens e = record { docno = []; tokens = names_of e.fields; fields = [] }

names_are_vocabulary : (es : List Entry) → names_in_order es ≡ vocabulary_of (map as_tokens es)
names_are_vocabulary [] = refl
names_are_vocabulary (e ∷ es) = ap (with_terms (names_of e.fields)) (names_are_vocabulary es)

pub names_rise : (es : List Entry) → IsStrictlySortedBy (slice_cmp nat_cmp) (names_in_order es)
names_rise es = subst (IsStrictlySortedBy (slice_cmp nat_cmp)) (sym (names_are_vocabulary es)) (vocabulary_rises (map as_tokens es))

occurring_name : (docs : List Document) (q : List ℕ) → Occurs q (map as_tokens (map entry_of docs)) → Contains (field_names docs) q
occurring_name [] q o = elim o [ ]
occurring_name (d ∷ docs) q (inl c) = Contains-append_left (names_of d.fields) (field_names docs) q c
occurring_name (d ∷ docs) q (inr o) = Contains-append_right (names_of d.fields) (field_names docs) q (occurring_name docs q o)

name_occurs : (docs : List Document) (q : List ℕ) → Contains (field_names docs) q → Occurs q (map as_tokens (map entry_of docs))
name_occurs [] q c = absurd (Contains-none q c)
name_occurs (d ∷ docs) q c = elim (Contains-append_cases (names_of d.fields) (field_names docs) q c) [
  | inl e ↦ inl e
  | inr e ↦ inr (name_occurs docs q e)
]

-- they are the names of the documents' fields
pub names_only : (docs : List Document) (q : List ℕ) → Contains (names_in_order (map entry_of docs)) q → Contains (field_names docs) q
names_only docs q c =
    let es = map entry_of docs in
    let there : Contains (vocabulary_of (map as_tokens es)) q = subst (λ (ns : List (List ℕ)). Contains ns q) (names_are_vocabulary es) c in
    occurring_name docs q (All-contains (λ t. Occurs t (map as_tokens es)) (vocabulary_of (map as_tokens es)) q (IsVocabulary-vocabulary_of (map as_tokens es)).only there)

pub names_all : (docs : List Document) (q : List ℕ) → Contains (field_names docs) q → Contains (names_in_order (map entry_of docs)) q
names_all docs q c =
    let es = map entry_of docs in
    subst (λ (ns : List (List ℕ)). Contains ns q) (sym (names_are_vocabulary es)) ((IsVocabulary-vocabulary_of (map as_tokens es)).all q (name_occurs docs q c))

-- the name of a field among the names of fields
pub name_at : (fs : List Field) (k : ℕ) (f : Field) → get_or fs k f ≡ f → k < length fs → get_or (names_of fs) k f.name ≡ f.name
name_at [] k f e lt = absurd (omega arith)
name_at (g ∷ gs) zero f e lt = subst (λ (x : Field). g.name ≡ x.name) e refl
name_at (g ∷ gs) (suc k) f e lt = name_at gs k f e (omega arith)

never_itself : (x : List ℕ) → slice_cmp nat_cmp x x ≡ Less → ⊥
never_itself x e =
    let tied : slice_cmp nat_cmp x x ≡ Equal = tied_itself nat_list_cmp_total x in
    let clash : Less ≡ Equal = sym e ∙ tied in
    cc

-- as many as there are distinct names
pub names_counted : (docs : List Document) → length (names_in_order (map entry_of docs)) ≡ name_count docs
names_counted docs = length-from_keys nat_list_eq_equiv ns (field_names docs) (IsDistinct-from_AllPairs bytes_eq-Decides ns apart) same
  where
    ns : List (List ℕ)
    ns = names_in_order (map entry_of docs)

    apart : (i j : ℕ) (d : List ℕ) → i < j → j < length (names_in_order (map entry_of docs)) → get_or (names_in_order (map entry_of docs)) i d ≢ get_or (names_in_order (map entry_of docs)) j d
    apart i j d lower inside e =
        let less = Less-from_sorted (slice_cmp nat_cmp) (names_in_order (map entry_of docs)) i j d (names_rise (map entry_of docs)) lower inside in
        never_itself (get_or (names_in_order (map entry_of docs)) j d) (subst (λ x. slice_cmp nat_cmp x (get_or (names_in_order (map entry_of docs)) j d) ≡ Less) e less)

    same : (q : List ℕ) → is_member bytes_eq (names_in_order (map entry_of docs)) q ≡ is_member bytes_eq (field_names docs) q
    same q = same_from_decides (is_member bytes_eq (names_in_order (map entry_of docs)) q) (is_member bytes_eq (field_names docs) q)
        (Decides-like (is_member bytes_eq (names_in_order (map entry_of docs)) q) (names_only docs q) (names_all docs q) (is_member-Decides bytes_eq-Decides (names_in_order (map entry_of docs)) q))
        (is_member-Decides bytes_eq-Decides (field_names docs) q)

-- ---- the numbers of names

pub number_of-there : (ns : List (List ℕ)) (x : List ℕ) → Contains ns x → (number_of ns x < length ns) × (get_or ns (number_of ns x) [] ≡ x)
number_of-there [] x c = absurd (Contains-none x c)
number_of-there (n ∷ ns) x c = by (bytes_eq n x) refl (Contains-cases n ns x c) (number_of-there ns x)
  where
    by : (b : Bool) → bytes_eq n x ≡ b → (n ≡ x) ⊎ Contains ns x → (Contains ns x → (number_of ns x < length ns) × (get_or ns (number_of ns x) [] ≡ x))
        → (cond b 0 (suc (number_of ns x)) < length (n ∷ ns)) × (get_or (n ∷ ns) (cond b 0 (suc (number_of ns x))) [] ≡ x)
    by true e c rest = (omega arith, (bytes_eq-Decides n x).0 e)
    by false e (inl same) rest =
        let known : bytes_eq n x ≡ true = subst (λ y. bytes_eq n y ≡ true) same (same_itself n) in
        let clash : true ≡ false = sym known ∙ e in
        absurd cc
    by false e (inr c) rest =
        let h = rest c in
        (omega (arith, h.0), h.1)

-- they rise as the names do
pub number_of-rises : (ns : List (List ℕ)) (a b : List ℕ) → IsStrictlySortedBy (slice_cmp nat_cmp) ns → Contains ns a → Contains ns b → slice_cmp nat_cmp a b ≡ Less → number_of ns a < number_of ns b
number_of-rises ns a b up ca cb less =
    let i = number_of-there ns a ca in
    let j = number_of-there ns b cb in
    elim (cases_order (number_of ns a) (number_of ns b)) [
      | inl e ↦
          let same : a ≡ b = sym i.1 ∙ ap (λ k. get_or ns k []) e ∙ j.1 in
          absurd (never_itself b (subst (λ x. slice_cmp nat_cmp x b ≡ Less) same less))
      | inr o ↦ elim o [
        | inl lt ↦ lt
        | inr gt ↦
            let back : slice_cmp nat_cmp (get_or ns (number_of ns b) []) (get_or ns (number_of ns a) []) ≡ Less = Less-from_sorted (slice_cmp nat_cmp) ns (number_of ns b) (number_of ns a) [] up gt i.0 in
            let back2 : slice_cmp nat_cmp b (get_or ns (number_of ns a) []) ≡ Less = subst (λ x. slice_cmp nat_cmp x (get_or ns (number_of ns a) []) ≡ Less) j.1 back in
            let back3 : slice_cmp nat_cmp b a ≡ Less = subst (λ x. slice_cmp nat_cmp b x ≡ Less) i.1 back2 in
            absurd (never_itself a (nat_list_cmp_total.trans a b a less back3))
      ]
    ]

none_is_last : (ns : List (List ℕ)) (x : List ℕ) → (Contains ns x → ⊥) → number_of ns x ≡ length ns
none_is_last [] x none = refl
none_is_last (n ∷ ns) x none = by (bytes_eq n x) refl (none_is_last ns x (λ c. none (Contains-later n ns x c)))
  where
    by : (b : Bool) → bytes_eq n x ≡ b → number_of ns x ≡ length ns → cond b 0 (suc (number_of ns x)) ≡ length (n ∷ ns)
    by true e h = absurd (none (subst (Contains (n ∷ ns)) ((bytes_eq-Decides n x).0 e) (Contains-here n ns)))
    by false e h = ap suc h

-- what a search that found no number says
pub number_of-absent : (ns : List (List ℕ)) (x : List ℕ) (i : ℕ) → IsStrictlySortedBy (slice_cmp nat_cmp) ns → IsBinarySearchResult (λ y. slice_cmp nat_cmp y x) ns (Err i) → number_of ns x ≡ length ns
number_of-absent ns x i up found = none_is_last ns x (λ c. absent ns (whole ∷ []) x i terms found (inl c))
  where
    whole : Document
    whole = record { docno = []; tokens = ns; fields = [] }

    terms : IsVocabulary ns (record { docno = []; tokens = ns; fields = [] } ∷ [])
    terms = record {
      rising = λ i j d lower inside. Less-from_sorted (slice_cmp nat_cmp) ns i j d up lower inside;
      only = All-weaker (Contains ns) (λ t. Occurs t (record { docno = []; tokens = ns; fields = [] } ∷ [])) (λ t c. inl c) ns (All-contains_itself ns);
      all = λ t o. elim o [ inl c ↦ c | inr none ↦ elim none [ ] ];
    }
