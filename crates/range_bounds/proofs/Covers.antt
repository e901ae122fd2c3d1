-- The bounds of a range cover the beliefs in each window of each of its documents.
use Rattle.std.proofs.Common.{◌≡◌, ◌<◌, ◌≤◌, ◌*◌, ◌^◌, ℕ, zero, suc, Bool, true, false, cond, max, min, nat_eq, nat_lt, List, [], ◌∷◌, length, map, filter, get_or, Option, None, Some, sym, ap, subst, ◌∙◌, arith, ⊎_elim, inl, inr}
use Rattle.std.specs.Prelude.{Contains, fold}
use Rattle.std.specs.List.{All}
use Rattle.std.specs.Set.{distinct_count, is_member, unique_keys}
use Rattle.std.specs.Str.{bytes_eq}
use Rattle.std.proofs.lemmas.Bool.{cases_Bool, eq-eqb, or_left, or_right}
use Rattle.std.proofs.lemmas.List.{get_or-map, length-map}
use Rattle.std.proofs.lemmas.List.Elements.{All-cons, All-contains, All-filter, All-map, All-nil}
use Rattle.std.proofs.lemmas.Slice.Eq.{bytes_eq-Decides}
use Rattle.ri_base.specs.Documents.{AreFields, Document, Field, IsDocument}
use Rattle.ri_base.specs.Expression.{ExprTree, ExprTrees, word, ordered, unordered, syn, any, band, in_field, none, more}
use Rattle.ri_base.specs.Pair.{Pair}
use Rattle.ri_base.specs.Places.{places}
use Rattle.ri_base.specs.Ratio.{Ratio}
use Rattle.ri_base.specs.declared.hit.LeafStats.{LeafStats}
use Rattle.ri_base.specs.declared.limits.TheConstants.{MAX_DOC_TOKENS}
use Rattle.ri_base.specs.declared.query.Range.{Range}
use Rattle.ri_base.specs.declared.query.Range.TheVariants.{Whole, Field as Fields, Passages}
use Rattle.field_extents.specs.Extents.{is_inside}
use Rattle.field_extents.specs.Fields.{lies_in_some}
use Rattle.field_extents.proofs.Laws.{begin_count-le, begin_count-le-covered_count, covered_count-le}
use Rattle.extent_lists.specs.Extents.{Ext, Exts}
use Rattle.extent_lists.specs.Operators.{IsChain, IsInSome}
use Rattle.extent_evaluation.specs.Counts.{counted, len, tf}
use Rattle.extent_evaluation.specs.Listed.{extent_list}
use Rattle.extent_evaluation.proofs.ListedLemmas.{listing}
use Rattle.smoothing.specs.Bounds.{IsAtMost}
use Rattle.smoothing.specs.Counts.{AreCounts}
use Rattle.smoothing.specs.Fractions.{fraction_of}
use Rattle.smoothing.specs.declared.rule.RuleKind.{RuleKind}
use Rattle.smoothing.proofs.Rises.{covered_kind}
use Rattle.query_check.specs.Leaves.{LeafTree, extents, prior}
use Rattle.belief_nodes.specs.Leaves.{AreLeafStats}
use Rattle.belief_nodes.specs.Priors.{Prior, prior_at}
use Rattle.belief_nodes.proofs.LeafBeliefs.{prior_kept}
use Rattle.belief_nodes.proofs.Lists.{all_first, all_rest}
use Rattle.windows.specs.Windows.{passage, passage_numbers, window, windows}
use Rattle.range_bounds.specs.Bounds.{AreBounds, AreCovered, IsLeafBound, belief_in, least_scored}
use Rattle.range_bounds.specs.Most.{most}
use Rattle.range_bounds.specs.Ranges.{field_begins, greatest, least_length, most_begins, most_places}
use Rattle.range_bounds.specs.Tables.{AreFormed}
use Rattle.range_bounds.proofs.Members.{HasFew, member_unique}
use Rattle.range_bounds.proofs.Mosts.{AreMost, bound_of, count_most}

-- ---- the greatest and the least of numbers

from_greatest : (a : ℕ) (ns : List ℕ) → a ≤ fold (λ m n. max m n) a ns
from_greatest a [] = omega arith
from_greatest a (n ∷ ns) = omega (arith, from_greatest (max a n) ns)

all_greatest : (a : ℕ) (ns : List ℕ) → All (λ n. n ≤ fold (λ m k. max m k) a ns) ns
all_greatest a [] = All-nil (λ n. n ≤ a)
all_greatest a (n ∷ ns) = All-cons (λ k. k ≤ fold (λ m k. max m k) (max a n) ns) n ns (omega (arith, from_greatest (max a n) ns)) (all_greatest (max a n) ns)

from_least : (a : ℕ) (ns : List ℕ) → fold (λ m n. min m n) a ns ≤ a
from_least a [] = omega arith
from_least a (n ∷ ns) = omega (arith, from_least (min a n) ns)

all_least : (a : ℕ) (ns : List ℕ) → All (λ n. fold (λ m k. min m k) a ns ≤ n) ns
all_least a [] = All-nil (λ n. a ≤ n)
all_least a (n ∷ ns) = All-cons (λ k. fold (λ m k. min m k) (min a n) ns ≤ k) n ns (omega (arith, from_least (min a n) ns)) (all_least (min a n) ns)

contains_map : {X Y : Type 0} (f : X → Y) (xs : List X) (x : X) → Contains xs x → Contains (map f xs) (f x)
contains_map f xs x c = (c.0, omega (arith, c.1, length-map xs f), get_or-map f xs c.0 x (f x) c.1 ∙ ap f c.2)

pub least_fits : (docs : List Document) → least_length docs ≤ MAX_DOC_TOKENS
least_fits docs = from_least MAX_DOC_TOKENS (map (λ (d : Document). length d.tokens) docs)

-- ---- the counts of a document among these

begins_has : (f : List ℕ) (b e : ℕ) (fields : List Field) (k : ℕ) → k < length fields → get_or fields k (record { name = f; begin = b; end = e }) ≡ record { name = f; begin = b; end = e } → is_member nat_eq (field_begins f fields) b ≡ true
begins_has f b e [] k inside is = absurd (omega (arith, inside))
begins_has f b e (g ∷ fields) zero inside is =
    let named : bytes_eq g.name f ≡ true = (bytes_eq-Decides g.name f).1 (ap (λ (x : Field). x.name) is) in
    let at : b ≡ g.begin = sym (ap (λ (x : Field). x.begin) is) in
    let rest = filter (λ (x : Field). bytes_eq x.name f) fields in
    subst (λ c. is_member nat_eq (map (λ (x : Field). x.begin) (cond c (g ∷ rest) rest)) b ≡ true) (sym named) (or_left (nat_eq b g.begin) _ (eq-eqb b g.begin at))
begins_has f b e (g ∷ fields) (suc k) inside is =
    let later = begins_has f b e fields k (omega (arith, inside)) is in
    let rest = filter (λ (x : Field). bytes_eq x.name f) fields in
    ⊎_elim
    (λ (named : bytes_eq g.name f ≡ true). subst (λ c. is_member nat_eq (map (λ (x : Field). x.begin) (cond c (g ∷ rest) rest)) b ≡ true) (sym named) (or_right (nat_eq b g.begin) _ later))
    (λ (other : bytes_eq g.name f ≡ false). subst (λ c. is_member nat_eq (map (λ (x : Field). x.begin) (cond c (g ∷ rest) rest)) b ≡ true) (sym other) later)
    (cases_Bool (bytes_eq g.name f))

few_named : (f : List ℕ) (d : Document) (m : ℕ) → distinct_count nat_eq (field_begins f d.fields) ≤ m → HasFew m (Ext (any f) d)
unfolding Ext
few_named f d m few = (unique_keys nat_eq (field_begins f d.fields), few, λ b e r. member_unique (field_begins f d.fields) b (begins_has f b e d.fields r.0 r.1 r.2))

are_most : (docs : List Document) (d : Document) → AreFormed docs → Contains docs d → AreMost (most_places docs) (most_begins docs) d
are_most docs d formed c =
    let form : IsDocument d.tokens d.fields = All-contains (λ (e : Document). IsDocument e.tokens e.fields) docs d formed c in
    record {
      short = form.short;
      sound = form.sound;
      each_term = λ t.
          let f : Document → ℕ = λ e. length (places t e) in
          All-contains (λ n. n ≤ greatest (map f docs)) (map f docs) (f d) (all_greatest 0 (map f docs)) (contains_map f docs d c);
      each_name = λ name.
          let f : Document → ℕ = λ e. distinct_count nat_eq (field_begins name e.fields) in
          few_named name d (most_begins docs name) (All-contains (λ n. n ≤ greatest (map f docs)) (map f docs) (f d) (all_greatest 0 (map f docs)) (contains_map f docs d c));
    }

-- ---- how often an expression occurs in a window

counted_are : (x : ExprTree) (d : Document) (c : Option (List ℕ)) → All (λ (p : Pair). Ext x d p.begin p.end) (counted x d c)
counted_are x d None = (listing x d).only
counted_are x d (Some c) = All-filter (lies_in_some d.fields c) (λ (p : Pair). Ext x d p.begin p.end) (extent_list x d) (listing x d).only

pub tf_most : (docs : List Document) (x : ExprTree) (d : Document) (w : Pair) (c : Option (List ℕ)) → AreFormed docs → Contains docs d → tf x d w c ≤ most docs x
tf_most docs x d w c formed has =
    let few = bound_of (most_places docs) (most_begins docs) d (are_most docs d formed has) x in
    count_most (most docs x) (Ext x d) (filter (is_inside w) (counted x d c)) few.few (All-filter (is_inside w) (λ (p : Pair). Ext x d p.begin p.end) (counted x d c) (counted_are x d c))

-- an extent has a token
chain_some : (n : ℕ) (Rs : List (ℕ → ℕ → Type 0)) → ((b e : ℕ) → IsInSome Rs b e → b < e) → (b e : ℕ) → IsChain n Rs b e → b < e
chain_some n [] some b e h = absurd h
chain_some n (R ∷ []) some b e h = some b e (inl h)
chain_some n (R ∷ S ∷ rest) some b e h =
    let first = some b h.0 (inl h.2) in
    let later = chain_some n (S ∷ rest) (λ f t r. some f t (inr r)) h.1 e h.4 in
    omega (arith, first, h.3.0, later)

module _ (d : Document) (sound : AreFields (length d.tokens) d.fields) where
  mutual
    unfolding Ext Exts

    extent_some : (x : ExprTree) (b e : ℕ) → Ext x d b e → b < e
    extent_some (word t) b e h = omega (arith, h.1)
    extent_some (ordered n xs) b e h = chain_some n (Exts xs d) (some_some xs) b e h.ends
    extent_some (unordered n xs) b e h = omega (arith, some_some xs b h.ends.begins.0 h.ends.begins.2, h.ends.begins.1)
    extent_some (syn xs) b e h = some_some xs b e h
    extent_some (any f) b e h = All-contains (λ (g : Field). g.begin < g.end) d.fields _ sound.some h
    extent_some (band xs) b e h = h.2
    extent_some (in_field x f) b e h = extent_some x b e h.0

    some_some : (xs : ExprTrees) (b e : ℕ) → IsInSome (Exts xs d) b e → b < e
    some_some none b e h = absurd h
    some_some (more x xs) b e (inl h) = extent_some x b e h
    some_some (more x xs) b e (inr h) = some_some xs b e h

  -- the counts in a window of the document are such that a belief is made of
  pub window_counts : (x : ExprTree) (w : Pair) (c : Option (List ℕ)) (cf total : ℕ) → length d.tokens ≤ MAX_DOC_TOKENS → w.end ≤ length d.tokens → cf ≤ total → total ≤ 2 ^ 29
      → AreCounts (tf x d w c) (len d w c) cf total
  window_counts x w c cf total short within part few = by c
    where
      some : All (λ (p : Pair). p.begin < p.end) (extent_list x d)
      some k e u = extent_some x _ _ ((listing x d).only k e u)

      by : (c : Option (List ℕ)) → AreCounts (tf x d w c) (len d w c) cf total
      by None = record { within = begin_count-le (extent_list x d) w some; part = part; short = omega (arith, short, within); few = few }
      by (Some name) = record {
        within = begin_count-le-covered_count (extent_list x d) d.fields name w (All-filter (lies_in_some d.fields name) (λ (p : Pair). p.begin < p.end) (extent_list x d) some);
        part = part;
        short = omega (arith, covered_count-le d.fields name w, short, within);
        few = few;
      }

-- ---- the windows of a document

pub windows_end : (r : Range) (tokens : ℕ) (fields : List Field) → AreFields tokens fields → All (λ w. w.end ≤ tokens) (windows r tokens fields)
windows_end Whole tokens fields sound = by (nat_lt 0 tokens)
  where
    by : (b : Bool) → All (λ (w : Pair). w.end ≤ tokens) (cond b (window 0 tokens ∷ []) [])
    by true = All-cons (λ (w : Pair). w.end ≤ tokens) (window 0 tokens) [] (omega arith) (All-nil (λ (w : Pair). w.end ≤ tokens))
    by false = All-nil (λ (w : Pair). w.end ≤ tokens)
windows_end (Fields name) tokens fields sound =
    All-map (λ (w : Pair). w.end ≤ tokens) (λ (f : Field). window f.begin f.end) (filter (λ (f : Field). bytes_eq f.name name) fields)
    (All-filter (λ (f : Field). bytes_eq f.name name) (λ f. f.end ≤ tokens) fields sound.within)
windows_end (Passages width every) tokens fields sound =
    All-map (λ (w : Pair). w.end ≤ tokens) (λ i. passage tokens width (i * every)) (passage_numbers tokens every) (λ k d u. omega arith)

whole_is : (tokens : ℕ) (fields : List Field) (w : Pair) → Contains (windows Whole tokens fields) w → w ≡ window 0 tokens
whole_is tokens fields w = by (nat_lt 0 tokens)
  where
    by : (b : Bool) → Contains (cond b (window 0 tokens ∷ []) []) w → w ≡ window 0 tokens
    by true (zero, inside, is) = sym is
    by true (suc k, inside, is) = absurd (omega (arith, inside))
    by false (k, inside, is) = absurd (omega (arith, inside))

least_le : (range : Range) (c : Option (List ℕ)) (docs : List Document) (d : Document) (w : Pair) → Contains docs d → Contains (windows range (length d.tokens) d.fields) w → least_scored range c (least_length docs) ≤ len d w c
least_le Whole None docs d w has is =
    let same = whole_is (length d.tokens) d.fields w is in
    let f : Document → ℕ = λ e. length e.tokens in
    let least : least_length docs ≤ length d.tokens = All-contains (λ n. least_length docs ≤ n) (map f docs) (f d) (all_least MAX_DOC_TOKENS (map f docs)) (contains_map f docs d has) in
    subst (λ v. least_length docs ≤ len d v None) (sym same) (omega (arith, least))
least_le Whole (Some c) docs d w has is = omega arith
least_le (Fields f) c docs d w has is = omega arith
least_le (Passages width every) c docs d w has is = omega arith

-- ---- the bounds

module _ (kind : RuleKind) (priors : List Prior) (range : Range) (docs : List Document) (d : Document) (w : Pair) (formed : AreFormed docs) (has : Contains docs d) (is : Contains (windows range (length d.tokens) d.fields) w) where
  leaf_covered : (l : LeafTree) (s : LeafStats) (r : Ratio) → AreLeafStats s → IsLeafBound kind priors range docs l s r → IsAtMost (belief_in kind priors d w l s) r
  leaf_covered (extents x c) s r stats h =
      let form : IsDocument d.tokens d.fields = All-contains (λ (e : Document). IsDocument e.tokens e.fields) docs d formed has in
      let within : w.end ≤ length d.tokens = All-contains (λ (v : Pair). v.end ≤ length d.tokens) (windows range (length d.tokens) d.fields) w (windows_end range (length d.tokens) d.fields form.sound) is in
      let counts = window_counts d form.sound x w c s.cf s.total form.short within stats.part stats.few in
      subst (λ q. IsAtMost (fraction_of kind (tf x d w c) (len d w c) s.cf s.total) q) (sym h)
      (covered_kind kind (most docs x) (least_scored range c (least_length docs)) (tf x d w c) (len d w c) s.cf s.total counts (tf_most docs x d w c formed has) (least_le range c docs d w has is))
  leaf_covered (prior n) s r stats h = prior_kept (λ q. IsAtMost q r) (prior_at priors n) d.docno (length d.tokens) h.most

  pub all_covered : (leaves : List LeafTree) (stats : List LeafStats) (bounds : List Ratio) → All AreLeafStats stats → AreBounds kind priors range docs leaves stats bounds → AreCovered kind priors d w leaves stats bounds
  all_covered [] stats [] a h = tt
  all_covered [] stats (r ∷ rs) a h = absurd h
  all_covered (l ∷ ls) [] [] a h = tt
  all_covered (l ∷ ls) [] (r ∷ rs) a h = absurd h
  all_covered (l ∷ ls) (s ∷ ss) [] a h = absurd h
  all_covered (l ∷ ls) (s ∷ ss) (r ∷ rs) a h = (leaf_covered l s r (all_first AreLeafStats s ss a) h.0, all_covered ls ss rs (all_rest AreLeafStats s ss a) h.1)
