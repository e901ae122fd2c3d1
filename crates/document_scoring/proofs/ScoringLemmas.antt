-- The windows of a document as the candidates that they are.
use Rattle.std.proofs.Common.{◌≡◌, ◌<◌, ◌≤◌, ℕ, Bool, true, false, ◌||◌, List, [], ◌∷◌, ◌++◌, length, map, filter, flat_map, get_or, refl, sym, ap, subst, ◌∙◌, arith, append-nil, append_assoc}
use Rattle.std.specs.Bool.{nat_lt}
use Rattle.std.specs.List.{All, list_all, list_any}
use Rattle.std.proofs.lemmas.List.{map-append}
use Rattle.std.proofs.lemmas.List.Elements.{All-cons, All-filter, All-head, All-map, All-nil, All-tail, filter-append, filter_agree}
use Rattle.ri_base.specs.Collection.{document_at}
use Rattle.ri_base.specs.Documents.{AreFields, Document, Field}
use Rattle.ri_base.specs.Pair.{Pair}
use Rattle.ri_base.specs.Query.{FilterTree, is_range}
use Rattle.ri_base.specs.declared.hit.LeafStats.{LeafStats}
use Rattle.smoothing.specs.declared.rule.RuleKind.{RuleKind}
use Rattle.query_check.specs.Leaves.{LeafTree}
use Rattle.belief_nodes.specs.Fractions.{leaf_fraction, leaf_fractions}
use Rattle.belief_nodes.specs.Network.{NetworkTree}
use Rattle.belief_nodes.specs.Priors.{Prior}
use Rattle.belief_nodes.specs.declared.leaf_count.LeafCount.{LeafCount}
use Rattle.windows.specs.Windows.{windows}
use Rattle.windows.proofs.OrderLemmas.{windows-some, windows-within}
use Rattle.document_scoring.specs.Candidates.{Candidate, IsWindowOf, beliefs, candidate, document_candidates, occurs, passes, some_occurs}
use Rattle.document_scoring.specs.Counters.{found_count}
use Rattle.document_scoring.specs.Counts.{count_in}
use Rattle.document_scoring.specs.declared.found.LeafExtents.{LeafExtents}
use Rattle.document_scoring.specs.Rows.{Adds, AddsRows, AddsWindows, row_candidate, window_candidate}
use Rattle.document_scoring.specs.declared.scoring.Row.{Row}

-- ---- as many fractions as leaves

fractions_length : (kind : RuleKind) (priors : List Prior) (docno : List ℕ) (tokens : ℕ) (leaves : List LeafTree) (counts : List LeafCount) (stats : List LeafStats)
    → length counts ≡ length leaves → length stats ≡ length leaves → length (leaf_fractions kind priors docno tokens leaves counts stats) ≡ length leaves
unfolding leaf_fractions
fractions_length kind priors docno tokens [] counts stats h h' = refl
fractions_length kind priors docno tokens (l ∷ ls) [] stats h h' = absurd (omega (arith, h))
fractions_length kind priors docno tokens (l ∷ ls) (n ∷ ns) [] h h' = absurd (omega (arith, h'))
fractions_length kind priors docno tokens (l ∷ ls) (n ∷ ns) (s ∷ ss) h h' =
    let rest = fractions_length kind priors docno tokens ls ns ss (omega (arith, h)) (omega (arith, h')) in omega (arith, rest)

-- ---- beliefs

told : (kind : RuleKind) (priors : List Prior) (d : Document) (w : Pair) (leaves : List LeafTree) (stats : List LeafStats)
    → leaf_fractions kind priors d.docno (length d.tokens) leaves (map (count_in d w) leaves) stats ≡ beliefs kind priors leaves stats d w
unfolding leaf_fractions
told kind priors d w [] [] = refl
told kind priors d w [] (s ∷ ss) = refl
told kind priors d w (l ∷ ls) [] = refl
told kind priors d w (l ∷ ls) (s ∷ ss) =
    ap (λ rs. leaf_fraction kind priors d.docno (length d.tokens) l (count_in d w l) s ∷ rs) (told kind priors d w ls ss)

pub fractions_are : (kind : RuleKind) (priors : List Prior) (d : Document) (w : Pair) (leaves : List LeafTree) (counts : List LeafCount) (stats : List LeafStats)
    → counts ≡ map (count_in d w) leaves → leaf_fractions kind priors d.docno (length d.tokens) leaves counts stats ≡ beliefs kind priors leaves stats d w
fractions_are kind priors d w leaves counts stats is =
    ap (λ (ns : List LeafCount). leaf_fractions kind priors d.docno (length d.tokens) leaves ns stats) is ∙ told kind priors d w leaves stats

-- ---- the filters

one_kept : {X Y : Type 0} (f : X → List Y) (p : X → Bool) (x : X) → p x ≡ true → flat_map f (filter p (x ∷ [])) ≡ f x
one_kept f p x h = rw h (append-nil (f x))

one_dropped : {X Y : Type 0} (f : X → List Y) (p : X → Bool) (x : X) → p x ≡ false → flat_map f (filter p (x ∷ [])) ≡ []
one_dropped f p x h = rw h refl

-- ---- functions that agree

pub map_agree : {X Y : Type 0} (f g : X → Y) → ((x : X) → f x ≡ g x) → (xs : List X) → map f xs ≡ map g xs
map_agree f g e [] = refl
map_agree f g e (x ∷ xs) =
    let here = e x in
    let rest = map_agree f g e xs in
    cc

list_any-map : {X Y : Type 0} (p : Y → Bool) (f : X → Y) (xs : List X) → list_any p (map f xs) ≡ list_any (λ x. p (f x)) xs
list_any-map p f [] = refl
list_any-map p f (x ∷ xs) = ap (λ b. p (f x) || b) (list_any-map p f xs)

-- ---- the rows of windows

module _ (kind : RuleKind) (priors : List Prior) (network : NetworkTree) (docno : List ℕ) (tokens : ℕ) where
  pub no_window : (counts : Pair → List LeafCount) (rows : List Row) → AddsWindows kind priors network docno tokens counts [] rows rows
  no_window counts rows = record { more = []; behind = sym (append-nil rows); candidates = refl }

  pub window_left_out : (counts : Pair → List LeafCount) (w : Pair) (rows : List Row) → some_occurs (counts w) ≡ false → AddsWindows kind priors network docno tokens counts (w ∷ []) rows rows
  window_left_out counts w rows none = record {
    more = [];
    behind = sym (append-nil rows);
    candidates = rw none refl;
  }

  pub window_added : (counts : Pair → List LeafCount) (w : Pair) (rows next : List Row) (row : Row) → some_occurs (counts w) ≡ true → row_candidate row ≡ window_candidate kind priors network docno tokens (counts w) w
      → next ≡ rows ++ row ∷ [] → AddsWindows kind priors network docno tokens counts (w ∷ []) rows next
  window_added counts w rows next row some is pushed = record {
    more = row ∷ [];
    behind = pushed;
    candidates = rw some (ap (λ (c : Candidate). c ∷ []) is);
  }

  -- the rows of windows, and then those of others
  pub more_windows : (counts : Pair → List LeafCount) (ws vs : List Pair) (before mid now : List Row) → AddsWindows kind priors network docno tokens counts ws before mid → AddsWindows kind priors network docno tokens counts vs mid now
      → AddsWindows kind priors network docno tokens counts (ws ++ vs) before now
  more_windows counts ws vs before mid now h k =
      let f : Pair → Candidate = λ w. window_candidate kind priors network docno tokens (counts w) w in
      let p : Pair → Bool = λ w. some_occurs (counts w) in
      let parts : map row_candidate (h.more ++ k.more) ≡ map f (filter p ws) ++ map f (filter p vs) =
      map-append row_candidate h.more k.more ∙ ap (λ cs. cs ++ map row_candidate k.more) h.candidates ∙ ap (λ cs. map f (filter p ws) ++ cs) k.candidates in
      let all : map f (filter p (ws ++ vs)) ≡ map f (filter p ws) ++ map f (filter p vs) = ap (map f) (filter-append p ws vs) ∙ map-append f (filter p ws) (filter p vs) in
      record {
        more = h.more ++ k.more;
        behind = k.behind ∙ ap (λ (rs : List Row). rs ++ k.more) h.behind ∙ append_assoc before h.more k.more;
        candidates = parts ∙ sym all;
      }

  -- by counts that are the same in each window
  pub same_windows : (f g : Pair → List LeafCount) (ws : List Pair) (before now : List Row) → ((w : Pair) → f w ≡ g w) → AddsWindows kind priors network docno tokens f ws before now → AddsWindows kind priors network docno tokens g ws before now
  same_windows f g ws before now agree h = record {
    more = h.more;
    behind = h.behind;
    candidates = h.candidates
        ∙ ap (map (λ w. window_candidate kind priors network docno tokens (f w) w)) (filter_agree (λ w. some_occurs (f w)) (λ w. some_occurs (g w)) (λ w. ap some_occurs (agree w)) ws)
        ∙ map_agree (λ w. window_candidate kind priors network docno tokens (f w) w) (λ w. window_candidate kind priors network docno tokens (g w) w) (λ w. ap (λ (ns : List LeafCount). window_candidate kind priors network docno tokens ns w) (agree w)) (filter (λ w. some_occurs (g w)) ws);
  }

-- ---- the rows of a document

pub not_passed : (kind : RuleKind) (priors : List Prior) (filters : List FilterTree) (network : NetworkTree) (d : Document) (passed : Bool) (rows : List Row) → passed ≡ list_all (passes d) filters → passed ≡ false
    → Adds kind priors filters network d rows rows
not_passed kind priors filters network d passed rows is not_so = record {
  more = [];
  behind = sym (append-nil rows);
  candidates = sym (one_dropped (document_candidates kind priors network) (λ e. list_all (passes e) filters) d (sym is ∙ not_so));
}

-- the windows of a document that passes, by the counts of the definition, are its candidates
pub adds_document : (kind : RuleKind) (priors : List Prior) (filters : List FilterTree) (network : NetworkTree) (d : Document) (docno : List ℕ) (tokens : ℕ) (fields : List Field) (counts : Pair → List LeafCount) (rows next : List Row)
    → list_all (passes d) filters ≡ true → docno ≡ d.docno → tokens ≡ length d.tokens → fields ≡ d.fields → ((w : Pair) → counts w ≡ map (count_in d w) network.leaves)
    → AddsWindows kind priors network docno tokens counts (windows network.range tokens fields) rows next → Adds kind priors filters network d rows next
adds_document kind priors filters network d docno tokens fields counts rows next passed named long same counted h =
    let ws : List Pair = windows network.range (length d.tokens) d.fields in
    let found : Pair → Bool = λ w. list_any (occurs d w) network.leaves in
    let here : windows network.range tokens fields ≡ ws = ap (λ n. windows network.range n fields) long ∙ ap (windows network.range (length d.tokens)) same in
    let tested : (w : Pair) → some_occurs (counts w) ≡ found w = λ w. ap some_occurs (counted w) ∙ list_any-map (λ (n : LeafCount). nat_lt 0 n.tf) (count_in d w) network.leaves in
    let told_by : (w : Pair) → window_candidate kind priors network docno tokens (counts w) w ≡ candidate kind priors network d w = λ w.
    ap (λ n. window_candidate kind priors network n tokens (counts w) w) named
    ∙ ap (λ n. window_candidate kind priors network d.docno n (counts w) w) long
    ∙ ap (λ rs. record { docno = d.docno; begin = w.begin; end = w.end; beliefs = rs }) (fractions_are kind priors d w network.leaves (counts w) network.stats (counted w)) in
    let all : map row_candidate h.more ≡ document_candidates kind priors network d =
    h.candidates
    ∙ ap (λ vs. map (λ w. window_candidate kind priors network docno tokens (counts w) w) (filter (λ w. some_occurs (counts w)) vs)) here
    ∙ ap (map (λ w. window_candidate kind priors network docno tokens (counts w) w)) (filter_agree (λ w. some_occurs (counts w)) found tested ws)
    ∙ map_agree (λ w. window_candidate kind priors network docno tokens (counts w) w) (candidate kind priors network d) told_by (filter found ws) in
    record {
      more = h.more;
      behind = h.behind;
      candidates = all ∙ sym (one_kept (document_candidates kind priors network) (λ e. list_all (passes e) filters) d passed);
    }

-- what is found in a document counts as the definition says, by the fields that the part lends of it later
pub counted_is : (docs read last : List Document) (id : ℕ) (w : Pair) (fields : List Field) (found items : List LeafExtents) (leaves asked : List LeafTree) → read ≡ docs → last ≡ docs → fields ≡ (document_at last id).fields → found ≡ items
    → map (found_count (document_at read id).fields w) items ≡ map (count_in (document_at read id) w) asked → asked ≡ leaves → map (found_count fields w) found ≡ map (count_in (document_at docs id) w) leaves
counted_is docs read last id w fields found items leaves asked same later fields_are found_is h is =
    let d : Document = document_at docs id in
    ap (λ (fs : List Field). map (found_count fs w) found) (fields_are ∙ ap (λ (ds : List Document). (document_at ds id).fields) later)
    ∙ ap (map (found_count d.fields w)) found_is
    ∙ subst (λ (ds : List Document). map (found_count (document_at ds id).fields w) items ≡ map (count_in (document_at ds id) w) asked) same h
    ∙ ap (map (count_in d w)) is

-- ---- rows as windows

pub no_rows : (d : Document) (leaves : ℕ) (rows : List Row) → AddsRows d leaves rows rows
no_rows d leaves rows = record { more = []; behind = sym (append-nil rows); each = All-nil (λ row. IsWindowOf d leaves (row_candidate row)) }

of_rows : (P : Candidate → Type 0) (rows : List Row) → All P (map row_candidate rows) → All (λ row. P (row_candidate row)) rows
of_rows P [] h = All-nil (λ row. P (row_candidate row))
of_rows P (r ∷ rows) h = All-cons (λ row. P (row_candidate row)) r rows (All-head P (row_candidate r) (map row_candidate rows) h) (of_rows P rows (All-tail P (row_candidate r) (map row_candidate rows) h))

-- the rows of a document's windows, by counts of as many leaves as there are
pub rows_of_windows : (kind : RuleKind) (priors : List Prior) (network : NetworkTree) (d : Document) (docno : List ℕ) (tokens : ℕ) (fields : List Field) (counts : Pair → List LeafCount) (rows next : List Row)
    → docno ≡ d.docno → tokens ≡ length d.tokens → AreFields tokens fields → is_range network.range ≡ true → length network.stats ≡ length network.leaves → ((w : Pair) → length (counts w) ≡ length network.leaves)
    → AddsWindows kind priors network docno tokens counts (windows network.range tokens fields) rows next → AddsRows d (length network.leaves) rows next
rows_of_windows kind priors network d docno tokens fields counts rows next named long sound numbers summed counted h =
    let P : Candidate → Type 0 = IsWindowOf d (length network.leaves) in
    let f : Pair → Candidate = λ w. window_candidate kind priors network docno tokens (counts w) w in
    let ws : List Pair = filter (λ w. some_occurs (counts w)) (windows network.range tokens fields) in
    let some : All (λ (w : Pair). w.begin < w.end) ws = All-filter (λ w. some_occurs (counts w)) (λ (w : Pair). w.begin < w.end) (windows network.range tokens fields) (windows-some tokens fields sound network.range numbers) in
    let within : All (λ (w : Pair). w.end ≤ tokens) ws = All-filter (λ w. some_occurs (counts w)) (λ (w : Pair). w.end ≤ tokens) (windows network.range tokens fields) (windows-within tokens fields sound network.range numbers) in
    let each : All P (map f ws) =
    All-map P f ws (λ k w inside. record {
      docno_is = named;
      some = some k w inside;
      within = subst (λ n. (get_or ws k w).end ≤ n) long (within k w inside);
      each = fractions_length kind priors docno tokens network.leaves (counts (get_or ws k w)) network.stats (counted (get_or ws k w)) summed;
    }) in
    record { more = h.more; behind = h.behind; each = of_rows P h.more (subst (All P) (sym h.candidates) each) }
