-- a document more is kept
use Rattle.std.proofs.Common.{◌≡◌, ◌<◌, ◌≤◌, ℕ, ◌+◌, List, [], ◌∷◌, ◌++◌, length, map, drop, get_or, Bool, true, false, ◌||◌, refl, sym, ap, subst, ◌∙◌, inl, inr, arith, append_assoc, length-append}
use Rattle.std.specs.List.{All, Contains}
use Rattle.std.proofs.lemmas.List.{take-append-drop, map-append}
use Rattle.std.specs.Set.{is_member}
use Rattle.std.specs.Str.{bytes_eq}
use Rattle.std.proofs.lemmas.List.Folds.{list_any-append}
use Rattle.ri_base.proofs.ListLemmas.{append_nil}
use Rattle.std.proofs.lemmas.List.Sums.{sum_by-append}
use Rattle.std.proofs.lemmas.List.Elements.{All-head, All-tail, All-append, All-weaker, All-push}
use Rattle.std.proofs.Math.Bool.{or_comm}
use Rattle.ri_base.specs.Collection.{field_names, names_of, token_count}
use Rattle.ri_base.specs.Documents.{Document, IsDocument}
use Rattle.ri_base.specs.Inversion.{AreNumbers, document_of, documents_of}
use Rattle.ri_base.specs.Vocabulary.{Occurs}
use Rattle.ri_base.specs.declared.held.Held.{Held}
use Rattle.memory_index.specs.Kept.{AreKept}
use Rattle.memory_index.specs.Numbering.{Holds}
use Rattle.memory_index.proofs.NumberingLemmas.{told_longer}
use Rattle.ri_base.specs.declared.limits.TheConstants.{MAX_HELD_TOKENS}

-- terms at the end leave the documents
pub documents_of-longer : (ks ext : List (List ℕ)) (hs : List Held) → AreNumbers (length ks) hs → documents_of (ks ++ ext) hs ≡ documents_of ks hs
documents_of-longer ks ext [] a = refl
documents_of-longer ks ext (h ∷ hs) a =
    let P : Held → Type 0 = λ h. All (λ k. k < length ks) h.tokens.items in
    let here : document_of (ks ++ ext) h ≡ document_of ks h = ap (λ ts. record { docno = h.docno; tokens = ts; fields = h.fields }) (told_longer ks ext h.tokens.items (All-head P h hs a)) in
    let rest = documents_of-longer ks ext hs (All-tail P h hs a) in
    ap (λ d. d ∷ documents_of (ks ++ ext) hs) here ∙ ap (λ l. document_of ks h ∷ l) rest

module _ (old new names named : List (List ℕ)) (docs more : List Held) (doc : Document) (h : Holds old new names named docs more doc) where
  split : new ≡ old ++ drop (length old) new
  split = sym (take-append-drop (length old) new) ∙ ap (λ l. l ++ drop (length old) new) h.tokens.kept

  last : document_of new h.held ≡ doc
  last = ap (λ x. record { docno = x; tokens = map (λ n. get_or new n []) h.held.tokens.items; fields = h.held.fields }) h.docno
      ∙ ap (λ x. record { docno = doc.docno; tokens = x; fields = h.held.fields }) h.tokens.told
      ∙ ap (λ x. record { docno = doc.docno; tokens = doc.tokens; fields = x }) h.fields

  -- the documents grow by this one
  pub documents_of-more : AreNumbers (length old) docs → documents_of new more ≡ documents_of old docs ++ doc ∷ []
  documents_of-more a =
      ap (documents_of new) h.pushed
      ∙ map-append (document_of new) docs (h.held ∷ [])
      ∙ ap (λ l. l ++ document_of new h.held ∷ []) (ap (λ ks. documents_of ks docs) split ∙ documents_of-longer old (drop (length old) new) docs a)
      ∙ ap (λ d. documents_of old docs ++ d ∷ []) last

Occurs-left : (t : List ℕ) (ds es : List Document) → Occurs t ds → Occurs t (ds ++ es)
Occurs-left t [] es p = elim p [ ]
Occurs-left t (d ∷ ds) es (inl p) = inl p
Occurs-left t (d ∷ ds) es (inr p) = inr (Occurs-left t ds es p)

Occurs-last : (t : List ℕ) (ds : List Document) (d : Document) → Contains d.tokens t → Occurs t (ds ++ d ∷ [])
Occurs-last t [] d p = inl p
Occurs-last t (e ∷ ds) d p = inr (Occurs-last t ds d p)

-- the names of one document more
pub field_names-push : (docs : List Document) (d : Document) → field_names (docs ++ d ∷ []) ≡ field_names docs ++ names_of d.fields
field_names-push [] d = append_nil (names_of d.fields)
field_names-push (e ∷ docs) d = ap (λ l. names_of e.fields ++ l) (field_names-push docs d) ∙ sym (append_assoc (names_of e.fields) (field_names docs) (names_of d.fields))

pub is_member-field_names : (docs : List Document) (d : Document) (q : List ℕ)
    → is_member bytes_eq (field_names (docs ++ d ∷ [])) q ≡ (is_member bytes_eq (field_names docs) q || is_member bytes_eq (names_of d.fields) q)
is_member-field_names docs d q = ap (λ l. is_member bytes_eq l q) (field_names-push docs d) ∙ list_any-append (bytes_eq q) (field_names docs) (names_of d.fields)

pub AreKept-more : (most held : ℕ) (old new names named : List (List ℕ)) (docs more : List Held) (doc : Document)
    → Holds old new names named docs more doc → AreKept most held old names docs → length docs < most
    → token_count (documents_of old docs) + length doc.tokens ≤ MAX_HELD_TOKENS → AreKept most (held + length doc.tokens) new named more
AreKept-more most held old new names named docs more doc h k room fits =
    let D = documents_of old docs in
    let e : documents_of new more ≡ D ++ doc ∷ [] = documents_of-more old new names named docs more doc h k.numbers in
    let count : token_count (D ++ doc ∷ []) ≡ token_count D + (0 + length doc.tokens) = sum_by-append (λ d. length d.tokens) D (doc ∷ []) in
    let longer = h.tokens.more in
    let few_new = h.tokens.few in
    let few_old = k.few in
    let is_new : new ≡ old ++ drop (length old) new = split old new names named docs more doc h in
    record {
      within = rw h.pushed (omega (arith, length-append docs (h.held ∷ [])));
      most_small = k.most_small;
      counted = rw e (omega (arith, count, k.counted));
      documents = rw e (All-push (λ d. IsDocument d.tokens d.fields) D doc k.documents h.form);
      numbers = rw h.pushed (All-push (λ g. All (λ n. n < length new) g.tokens.items) docs h.held
          (All-weaker (λ g. All (λ n. n < length old) g.tokens.items) (λ g. All (λ n. n < length new) g.tokens.items)
          (λ g a. All-weaker (λ n. n < length old) (λ n. n < length new) (λ n p. omega arith) g.tokens.items a) docs k.numbers)
          h.tokens.small);
      fits = rw e (omega (arith, count));
      few = rw e (omega (arith, count));
      used = subst (λ ts. All (λ t. Occurs t (documents_of new more)) ts) (sym is_new) (rw e
          (All-append (λ t. Occurs t (D ++ doc ∷ [])) old (drop (length old) new)
          (All-weaker (λ t. Occurs t D) (λ t. Occurs t (D ++ doc ∷ [])) (λ t p. Occurs-left t D (doc ∷ []) p) old k.used)
          (All-weaker (Contains doc.tokens) (λ t. Occurs t (D ++ doc ∷ [])) (λ t p. Occurs-last t D doc p) (drop (length old) new) h.tokens.used)));
      named = λ q. h.noted.together q ∙ ap (λ b. is_member bytes_eq (names_of doc.fields) q || b) (k.named q)
          ∙ or_comm (is_member bytes_eq (names_of doc.fields) q) (is_member bytes_eq (field_names D) q)
          ∙ sym (ap (λ ds. is_member bytes_eq (field_names ds) q) e ∙ is_member-field_names D doc q);
    }
