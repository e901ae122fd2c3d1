-- What counters keep while windows pass, and the ranges of what they count.
use Rattle.std.proofs.Common.{◌≡◌, ◌<◌, ◌≤◌, ◌^◌, ℕ, suc, ⊎_elim, List, ◌∷◌, length, map, get_or, refl, sym, ap, subst, ◌∙◌, arith}
use Rattle.std.specs.List.{All}
use Rattle.std.proofs.lemmas.List.{length-map}
use Rattle.std.proofs.lemmas.List.Elements.{All-map, All-weaker}
use Rattle.ri_base.specs.Collection.{document_at}
use Rattle.ri_base.specs.Documents.{Document, Field}
use Rattle.ri_base.specs.Pair.{Pair}
use Rattle.ri_base.specs.declared.limits.TheConstants.{MAX_DOC_TOKENS}
use Rattle.field_extents.specs.Passed.{BeginBefore, BeginBy, PassedExtents, PassedFields}
use Rattle.field_extents.proofs.Laws.{begin_count-le, covered_count-le}
use Rattle.extent_lists.specs.Pairs.{pair}
use Rattle.extent_evaluation.proofs.CountLaws.{begin_count_none}
use Rattle.query_check.specs.Leaves.{LeafTree}
use Rattle.windows.specs.Windows.{AreRising, IsEarlier}
use Rattle.belief_nodes.specs.Leaves.{IsLeafCount}
use Rattle.belief_nodes.specs.declared.leaf_count.LeafCount.{LeafCount}
use Rattle.document_scoring.specs.Counters.{IsBegun, IsBegunInside, IsReady, counter_count, found_count}
use Rattle.document_scoring.specs.Counts.{count_in, count_of}
use Rattle.document_scoring.specs.declared.counters.Counter.{Counter}
use Rattle.document_scoring.specs.declared.counters.Counter.TheVariants as counter
use Rattle.document_scoring.specs.declared.found.LeafExtents.{LeafExtents}

-- ---- windows pass

-- what begins before one position begins before a later one
BeginBefore-later : (p q : ℕ) (s : PassedExtents) → p ≤ q → BeginBefore p s → BeginBefore q s
BeginBefore-later p q s later before = λ k d l. omega (arith, later, before k d l)

BeginBy-later : (p q : ℕ) (s : PassedFields) → p ≤ q → BeginBy p s → BeginBy q s
BeginBy-later p q s later by_there = λ k d l. omega (arith, later, by_there k d l)

IsBegun-later : (p q : ℕ) (s : PassedExtents) → p ≤ q → IsBegun p s → IsBegun q s
IsBegun-later p q s later h = record { some = h.some; passed = BeginBefore-later p q s later h.passed }

pub IsReady-later : (p q : ℕ) (c : Counter) → p ≤ q → IsReady p c → IsReady q c
IsReady-later p q (counter.Plain s) later h = IsBegun-later p q s later h
IsReady-later p q (counter.Inside c) later h =
    record { extents = IsBegun-later p q c.begins later h.extents; fields = BeginBy-later p q c.cover later h.fields; few = h.few }
IsReady-later p q counter.Prior later h = tt

pub AreReady-later : (p q : ℕ) (cs : List Counter) → p ≤ q → All (IsReady p) cs → All (IsReady q) cs
AreReady-later p q cs later h = All-weaker (IsReady p) (IsReady q) (λ c. IsReady-later p q c later) cs h

-- counters that are ready before all windows are ready for each
pub ready_all : (ws : List Pair) (cs : List Counter) → All (IsReady 0) cs → All (λ w. All (IsReady w.begin) cs) ws
ready_all ws cs h = λ k d l. AreReady-later 0 (get_or ws k d).begin cs (omega arith) h

later_begin : (v w : Pair) → IsEarlier v w → v.begin ≤ w.begin
later_begin v w h = ⊎_elim
    (λ (less : v.begin < w.begin). omega arith)
    (λ (same : (v.begin ≡ w.begin) × (v.end < w.end)). omega (arith, same.0))
    h

-- those that are ready for a window are ready for all that follow it
pub ready_rest : (w : Pair) (rest left : List Pair) (cs : List Counter) → left ≡ w ∷ rest → AreRising left → All (IsReady w.begin) cs → All (λ v. All (IsReady v.begin) cs) rest
ready_rest w rest left cs is rising h = λ k d l.
    let all : AreRising (w ∷ rest) = subst AreRising is rising in
    let earlier : IsEarlier w (get_or rest k d) = all 0 (suc k) d (omega arith) (omega (arith, l)) in
    AreReady-later w.begin (get_or rest k d).begin cs (later_begin w (get_or rest k d) earlier) h

pub rising_rest : (w : Pair) (rest left : List Pair) → left ≡ w ∷ rest → AreRising left → AreRising rest
rising_rest w rest left is rising = λ i j d less inside.
    let all : AreRising (w ∷ rest) = subst AreRising is rising in
    all (suc i) (suc j) d (omega (arith, less)) (omega (arith, inside))

-- ---- before the first window

pub begun_new : (xs : List Pair) (s : PassedExtents) → All (λ x. x.begin < x.end) xs → s ≡ record { extents = xs; passed = 0 } → IsBegun 0 s
begun_new xs s some is = rw is (record { some = some; passed = λ k d l. absurd (omega (arith, l)) })

-- ---- one window counted

pub begun_next : (p : ℕ) (s t : PassedExtents) → IsBegun p s → t.extents ≡ s.extents → BeginBefore p t → IsBegun p t
begun_next p s t h same passed = record { some = rw same h.some; passed = passed }

pub begun_inside_next : (p : ℕ) (s t : PassedExtents) (f g : PassedFields) → IsBegunInside p s f → t.extents ≡ s.extents → BeginBefore p t → g.fields ≡ f.fields → g.name ≡ f.name → BeginBy p g → IsBegunInside p t g
begun_inside_next p s t f g h same passed fields name by_there = record {
  extents = begun_next p s t h.extents same passed;
  fields = by_there;
  few = rw (same, fields, name) h.few;
}

-- ---- the ranges of counts

within : (p : ℕ) (c : Counter) (w : Pair) → IsReady p c → (counter_count w c).tf ≤ (counter_count w c).len
within p (counter.Plain s) w h = begin_count-le s.extents w h.some
within p (counter.Inside c) w h = h.few w
within p counter.Prior w h = omega arith

short : (c : Counter) (w : Pair) → w.end ≤ MAX_DOC_TOKENS → (counter_count w c).len ≤ 2 ^ 20
short (counter.Plain s) w h = omega (arith, h)
short (counter.Inside c) w h = omega (arith, h, covered_count-le c.cover.fields c.cover.name w)
short counter.Prior w h = omega arith

pub count_range : (p : ℕ) (c : Counter) (w : Pair) → w.end ≤ MAX_DOC_TOKENS → IsReady p c → IsLeafCount (counter_count w c)
count_range p c w h ready = record { within = within p c w ready; short = short c w h }

pub count_ranges : (p : ℕ) (cs : List Counter) (w : Pair) → w.end ≤ MAX_DOC_TOKENS → All (IsReady p) cs → All (λ n. IsLeafCount n) (map (counter_count w) cs)
count_ranges p cs w h ready =
    All-map (λ n. IsLeafCount n) (counter_count w) cs (All-weaker (IsReady p) (λ c. IsLeafCount (counter_count w c)) (λ c. count_range p c w h) cs ready)

-- ---- a document without tokens

pub count_none : (p : ℕ) (c : Counter) → IsReady p c → record { tf = 0; len = 0 } ≡ counter_count (pair 0 0) c
count_none p (counter.Plain s) h = ap (λ n. record { tf = n; len = 0 }) (sym (begin_count_none s.extents h.some))
count_none p (counter.Inside c) h = ap (λ n. record { tf = n; len = 0 }) (sym (begin_count_none c.begins.extents h.extents.some))
count_none p counter.Prior h = refl

-- ---- as many counters as leaves

-- lists that two functions take to the same are equally long
pub equally_long : {X Y Z : Type 0} (f : X → Z) (g : Y → Z) (xs : List X) (ys : List Y) → map f xs ≡ map g ys → length xs ≡ length ys
equally_long f g xs ys same = sym (length-map xs f) ∙ ap length same ∙ length-map ys g

-- ---- a document as a whole

pub whole_is : (docs read : List Document) (id : ℕ) (leaf : LeafTree) (fields : List Field) (n : ℕ) (found : LeafExtents) (count : LeafCount)
    → read ≡ docs → fields ≡ (document_at read id).fields → n ≡ length (document_at read id).tokens → count ≡ found_count fields (pair 0 n) found
    → ((w : Pair) → found_count (document_at docs id).fields w found ≡ count_in (document_at docs id) w leaf) → count ≡ count_of (document_at docs id) leaf
whole_is docs read id leaf fields n found count same fields_are long counted exact =
    let d : Document = document_at docs id in
    let here : fields ≡ d.fields = fields_are ∙ ap (λ (ds : List Document). (document_at ds id).fields) same in
    let tokens : n ≡ length d.tokens = long ∙ ap (λ (ds : List Document). length (document_at ds id).tokens) same in
    counted
    ∙ ap (λ (fs : List Field). found_count fs (pair 0 n) found) here
    ∙ exact (pair 0 n)
    ∙ ap (λ m. count_in d (pair 0 m) leaf) tokens

pub whole_range : (c : Counter) (n : ℕ) (count : LeafCount) → n ≤ MAX_DOC_TOKENS → IsReady 0 c → count ≡ counter_count (pair 0 n) c → IsLeafCount count
whole_range c n count few ready is = subst IsLeafCount (sym is) (count_range 0 c (pair 0 n) few ready)
