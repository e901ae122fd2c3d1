-- Live documents that are passed one by one.
use Rattle.std.proofs.Common.{◌≡◌, ◌<◌, ◌≤◌, ℕ, zero, suc, ◌+◌, ◌-◌, Bool, true, false, List, [], ◌∷◌, ◌++◌, cond, not, length, map, take, get_or, refl, sym, ap, subst, ◌∙◌, arith, append_assoc, append-nil}
use Rattle.std.specs.Int.{from_bool}
use Rattle.std.specs.List.{All}
use Rattle.std.proofs.lemmas.List.{length-append}
use Rattle.ri_base.specs.Collection.{document_at}
use Rattle.ri_base.specs.Documents.{Document}
use Rattle.ri_base.specs.Query.{FilterTree}
use Rattle.smoothing.specs.declared.rule.RuleKind.{RuleKind}
use Rattle.belief_nodes.specs.Network.{NetworkTree}
use Rattle.belief_nodes.specs.Priors.{Prior}
use Rattle.deletion_list.specs.Marks.{marked_count}
use Rattle.disk_index.specs.Snapshots.{unmarked}
use Rattle.document_scoring.specs.Candidates.{candidates}
use Rattle.bounded_keys.specs.declared.entry.Entry.{Entry}
use Rattle.range_bounds.specs.Tables.{IsAbsent}
use Rattle.range_masks.specs.May.{query_may}
use Rattle.ranker.specs.First.{Advances, AsksWithin, Counted, HoldsFirst, KeptEntries, WereOffered, counted, early_cost, early_of}
use Rattle.ranker.specs.Passed.{live_ids}
use Rattle.ranker.specs.Least.{AreFrom}
use Rattle.ranker.specs.declared.window.Window.{Window}
use Rattle.ranker.proofs.RankingLemmas.{HoldsFirst-more, candidates-append}
use Rattle.ranker.proofs.SkippedLemmas.{document_rows}
use Rattle.ranker.proofs.SkippingLemmas.{HoldsFirst-absent, HoldsFirst-skipped}

-- ---- ids

ids-suc : (marks : List Bool) (i : ℕ) → i < length marks → live_ids marks (suc i) ≡ live_ids marks i + cond (get_or marks i false) 0 1
ids-suc [] i lt = absurd (omega (arith, lt))
ids-suc (true ∷ marks) zero lt = refl
ids-suc (false ∷ marks) zero lt = refl
ids-suc (true ∷ marks) (suc i) lt = ids-suc marks i (omega (arith, lt))
ids-suc (false ∷ marks) (suc i) lt = let rest = ids-suc marks i (omega (arith, lt)) in omega (arith, rest)

-- one id more
ids-more : (marks : List Bool) (i : ℕ) → i < length marks → live_ids marks (i + 1) ≡ live_ids marks i + cond (get_or marks i false) 0 1
ids-more marks i lt = let next : i + 1 ≡ suc i = omega arith in ap (live_ids marks) next ∙ ids-suc marks i lt

pub ids-dead : (marks : List Bool) (i : ℕ) → i < length marks → get_or marks i false ≡ true → live_ids marks (i + 1) ≡ live_ids marks i + 0
ids-dead marks i lt dead = ids-more marks i lt ∙ ap (λ (b : Bool). live_ids marks i + cond b 0 1) dead

pub ids-live : (marks : List Bool) (i : ℕ) → i < length marks → get_or marks i false ≡ false → live_ids marks (i + 1) ≡ live_ids marks i + 1
ids-live marks i lt live = ids-more marks i lt ∙ ap (λ (b : Bool). live_ids marks i + cond b 0 1) live

-- one id more, and the count of live ones among it
pub ids-counted : (marks : List Bool) (i : ℕ) (marked : Bool) → i < length marks → marked ≡ get_or marks i false
    → (live_ids marks (i + 1) ≡ live_ids marks i + from_bool (not marked)) × (from_bool (not marked) ≤ 1)
ids-counted marks i true lt is = (ids-dead marks i lt (sym is), omega arith)
ids-counted marks i false lt is = (ids-live marks i lt (sym is), omega arith)

-- ---- documents

-- one document more
more : (docs : List Document) (marks : List Bool) (i : ℕ) → i < length docs → length marks ≡ length docs
    → unmarked (take (suc i) docs) marks ≡ unmarked (take i docs) marks ++ cond (get_or marks i false) [] (document_at docs i ∷ [])
more [] marks i lt h = absurd (omega (arith, lt))
more (d ∷ docs) [] i lt h = absurd (omega (arith, h))
more (d ∷ docs) (true ∷ marks) zero lt h = refl
more (d ∷ docs) (false ∷ marks) zero lt h = refl
more (d ∷ docs) (true ∷ marks) (suc i) lt h = more docs marks i (omega (arith, lt)) (omega (arith, h))
more (d ∷ docs) (false ∷ marks) (suc i) lt h = ap (λ (ds : List Document). d ∷ ds) (more docs marks i (omega (arith, lt)) (omega (arith, h)))

pub unmarked-more : (docs : List Document) (marks : List Bool) (i : ℕ) → i < length docs → length marks ≡ length docs
    → unmarked (take (i + 1) docs) marks ≡ unmarked (take i docs) marks ++ cond (get_or marks i false) [] (document_at docs i ∷ [])
unmarked-more docs marks i lt h =
    let next : i + 1 ≡ suc i = omega arith in
    ap (λ n. unmarked (take n docs) marks) next ∙ more docs marks i lt h

-- as many as there are ids
pub unmarked-ids : {A : Type 0} (xs : List A) (marks : List Bool) (i : ℕ) → length marks ≡ length xs → length (unmarked (take i xs) marks) ≡ live_ids marks i
unmarked-ids xs marks zero h = refl
unmarked-ids [] [] (suc i) h = refl
unmarked-ids [] (m ∷ marks) (suc i) h = absurd (omega (arith, h))
unmarked-ids (x ∷ xs) [] (suc i) h = absurd (omega (arith, h))
unmarked-ids (x ∷ xs) (true ∷ marks) (suc i) h = unmarked-ids xs marks i (omega (arith, h))
unmarked-ids (x ∷ xs) (false ∷ marks) (suc i) h = ap suc (unmarked-ids xs marks i (omega (arith, h)))

pub cost-sum : (network : NetworkTree) (m n : ℕ) → early_cost network (m + n) ≡ early_cost network m + early_cost network n
cost-sum network m n = omega arith

pub cost-more : (network : NetworkTree) (m n : ℕ) → m ≤ n → early_cost network m ≤ early_cost network n
cost-more network m n le =
    let whole : m + (n - m) ≡ n = omega (arith, le) in
    let all : early_cost network (m + (n - m)) ≡ early_cost network n = ap (early_cost network) whole in
    let both = cost-sum network m (n - m) in
    omega (arith, all, both)

module _ (kind : RuleKind) (priors : List Prior) (filters : List FilterTree) (network : NetworkTree) where
  abbrev pub spent_on : List Document → ℕ
  spent_on ds = early_cost network (length (candidates kind priors filters network ds))

  -- the squarings of some documents' candidates, and then those of others'
  pub cost-append : (docs more : List Document) → spent_on (docs ++ more) ≡ spent_on docs + spent_on more
  cost-append docs more =
      let both : length (candidates kind priors filters network (docs ++ more)) ≡ length (candidates kind priors filters network docs) + length (candidates kind priors filters network more) =
      ap length (candidates-append kind priors filters network docs more) ∙ length-append (candidates kind priors filters network docs) (candidates kind priors filters network more) in
      ap (early_cost network) both ∙ cost-sum network (length (candidates kind priors filters network docs)) (length (candidates kind priors filters network more))

  -- of some documents no more than of these and others
  pub cost-front : (front rest all : List Document) → all ≡ front ++ rest → spent_on front ≤ spent_on all
  cost-front front rest all is = let e : spent_on all ≡ spent_on (front ++ rest) = ap spent_on is in let both = cost-append front rest in omega (arith, e, both)

  -- of a live document more
  pub cost-live : (docs : List Document) (marks : List Bool) (i : ℕ) → i < length docs → length marks ≡ length docs → get_or marks i false ≡ false
      → spent_on (unmarked (take (i + 1) docs) marks) ≡ spent_on (unmarked (take i docs) marks) + spent_on (document_at docs i ∷ [])
  cost-live docs marks i lt whole live =
      let d : List Document = document_at docs i ∷ [] in
      let seen : List Document = unmarked (take i docs) marks in
      let same : unmarked (take (i + 1) docs) marks ≡ seen ++ d = unmarked-more docs marks i lt whole ∙ ap (λ (b : Bool). seen ++ cond b [] d) live in
      ap spent_on same ∙ cost-append seen d

  -- ---- documents behind others

  pub Advances-same : (old : List Document) (few : Counted) → Advances kind priors filters network old old few few
  Advances-same old few = record { step = λ before most h. h; cost = omega arith }

  pub Advances-then : (old mid new : List Document) (few then next : Counted) → Advances kind priors filters network old mid few then → Advances kind priors filters network mid new then next
      → Advances kind priors filters network old new few next
  Advances-then old mid new few held next first second = record { step = λ before most h. second.step before most (first.step before most h); cost = let a = first.cost in let b = second.cost in omega (arith, a, b) }

  -- behind bounds that were asked for
  pub Advances-asks : (old new : List Document) (kept next : KeptEntries) (a b d was mid now : ℕ) → AsksWithin network was mid a b → mid ≤ now
      → Advances kind priors filters network old new (counted kept b 0) (counted next d 0) → Advances kind priors filters network old new (counted kept a was) (counted next d now)
  Advances-asks old new kept next a b d was mid now asks le h = record { step = h.step; cost = let c = h.cost in let more = cost-more network mid now le in omega (arith, asks, c, more) }

  -- behind the bounds of other ranges
  pub Advances-further : (old new : List Document) (kept next : KeptEntries) (a b was now others all : ℕ) → others + now ≤ all
      → Advances kind priors filters network old new (counted kept a was) (counted next b now) → Advances kind priors filters network old new (counted kept a (others + was)) (counted next b all)
  Advances-further old new kept next a b was now others all le h = record { step = h.step; cost = let c = h.cost in let more = cost-more network (others + now) all le in omega (arith, c, more) }

  -- a document behind any others changes nothing of what is held
  abbrev pub PassesBy : Counted → Document → Type 0
  PassesBy few d = (before : List Document) (most : ℕ) → HoldsFirst kind priors filters network before most few.kept → HoldsFirst kind priors filters network (before ++ d ∷ []) most few.kept

  pub passes_unseen : (few : Counted) (d : Document) → query_may filters network.leaves d ≡ false → PassesBy few d
  passes_unseen few d none = λ before most h. HoldsFirst-skipped kind priors filters network before d most few.kept none h

  pub passes_absent : (few : Counted) (d : Document) → All (IsAbsent d) network.leaves → PassesBy few d
  passes_absent few d absent = λ before most h. HoldsFirst-absent kind priors filters network before d most few.kept (λ passed. absent) h

  passes_beaten : (few : Counted) (d : Document) (least : ℕ) → length network.leaves ≤ length network.stats
      → ((all more : List (Entry Window)) → WereOffered all few.kept → All (λ x. least ≤ x.leading) more → WereOffered (more ++ all) few.kept)
      → AreFrom kind priors network least d → PassesBy few d
  passes_beaten few d least summed skip from = λ before most h.
      let rows = document_rows kind priors filters network least summed d from in
      HoldsFirst-more kind priors filters network before d most few.kept few.kept rows.rows (record { more = rows.rows; behind = refl; candidates = rows.all }) rows.each refl refl
      (λ all offered. skip all (map (early_of network) rows.rows) offered rows.leads) h

  module _ (docs : List Document) (marks : List Bool) (i : ℕ) (few : Counted) where
    -- a dead document
    pub Advances-dead : i < length docs → length marks ≡ length docs → get_or marks i false ≡ true
        → Advances kind priors filters network (unmarked (take i docs) marks) (unmarked (take (i + 1) docs) marks) few few
    Advances-dead lt whole dead =
        let same : unmarked (take (i + 1) docs) marks ≡ unmarked (take i docs) marks =
        unmarked-more docs marks i lt whole ∙ ap (λ (b : Bool). unmarked (take i docs) marks ++ cond b [] (document_at docs i ∷ [])) dead ∙ append-nil (unmarked (take i docs) marks) in
        record { step = λ before most h. subst (λ (ds : List Document). HoldsFirst kind priors filters network (before ++ ds) most few.kept) (sym same) h; cost = let e : spent_on (unmarked (take (i + 1) docs) marks) ≡ spent_on (unmarked (take i docs) marks) = ap spent_on same in omega (arith, e) }

    -- a live document whose candidates are held with those of any documents before it
    pub Advances-live : (next : Counted) → next.asked ≡ few.asked → i < length docs → length marks ≡ length docs → get_or marks i false ≡ false
        → ((before : List Document) (most : ℕ) → HoldsFirst kind priors filters network before most few.kept → HoldsFirst kind priors filters network (before ++ document_at docs i ∷ []) most next.kept)
        → next.squares ≤ few.squares + early_cost network (length (candidates kind priors filters network (document_at docs i ∷ [])))
        → Advances kind priors filters network (unmarked (take i docs) marks) (unmarked (take (i + 1) docs) marks) few next
    Advances-live next asked lt whole live one few_squares =
        let bounds : early_cost network next.asked ≡ early_cost network few.asked = ap (early_cost network) asked in
        let d : List Document = document_at docs i ∷ [] in
        let seen : List Document = unmarked (take i docs) marks in
        let same : unmarked (take (i + 1) docs) marks ≡ seen ++ d = unmarked-more docs marks i lt whole ∙ ap (λ (b : Bool). seen ++ cond b [] d) live in
        record {
          step = λ before most h.
              let here : (before ++ seen) ++ d ≡ before ++ unmarked (take (i + 1) docs) marks = append_assoc before seen d ∙ ap (λ (ds : List Document). before ++ ds) (sym same) in
              subst (λ (ds : List Document). HoldsFirst kind priors filters network ds most next.kept) here (one (before ++ seen) most h);
          cost = let e : spent_on (unmarked (take (i + 1) docs) marks) ≡ spent_on seen + spent_on d = ap spent_on same ∙ cost-append seen d in omega (arith, e, few_squares, bounds);
        }

    -- a live document that changes nothing of what is held
    pub Advances-by : i < length docs → length marks ≡ length docs → get_or marks i false ≡ false → PassesBy few (document_at docs i)
        → Advances kind priors filters network (unmarked (take i docs) marks) (unmarked (take (i + 1) docs) marks) few few
    Advances-by lt whole live by = Advances-live few refl lt whole live by (omega arith)

    -- a live document that has nothing to show
    pub Advances-unseen : i < length docs → length marks ≡ length docs → get_or marks i false ≡ false → query_may filters network.leaves (document_at docs i) ≡ false
        → Advances kind priors filters network (unmarked (take i docs) marks) (unmarked (take (i + 1) docs) marks) few few
    Advances-unseen lt whole live none = Advances-by lt whole live (passes_unseen few (document_at docs i) none)

  -- documents behind others that change nothing of what is held
  unseen : (docs : List Document) (marks : List Bool) (few : Counted) (n i j : ℕ) → j ≡ i + n → j ≤ length docs → length marks ≡ length docs
      → ((id : ℕ) → i ≤ id → id < j → PassesBy few (document_at docs id))
      → Advances kind priors filters network (unmarked (take i docs) marks) (unmarked (take j docs) marks) few few
  unseen docs marks few zero i j far le whole none =
      let same : i ≡ j = omega (arith, far) in
      subst (λ k. Advances kind priors filters network (unmarked (take i docs) marks) (unmarked (take k docs) marks) few few) same (Advances-same (unmarked (take i docs) marks) few)
  unseen docs marks few (suc n) i j far le whole none =
      Advances-then (unmarked (take i docs) marks) (unmarked (take (i + 1) docs) marks) (unmarked (take j docs) marks) few few few (one (get_or marks i false) refl)
      (unseen docs marks few n (i + 1) j (omega (arith, far)) le whole (λ id low high. none id (omega (arith, low)) high))
    where
      one : (b : Bool) → get_or marks i false ≡ b → Advances kind priors filters network (unmarked (take i docs) marks) (unmarked (take (i + 1) docs) marks) few few
      one true dead = Advances-dead docs marks i few (omega (arith, far, le)) whole dead
      one false live = Advances-by docs marks i few (omega (arith, far, le)) whole live (none i (omega arith) (omega (arith, far)))

  pub Advances-bare : (docs : List Document) (marks : List Bool) (few : Counted) (i j : ℕ) → i ≤ j → j ≤ length docs → length marks ≡ length docs
      → ((id : ℕ) → i ≤ id → id < j → query_may filters network.leaves (document_at docs id) ≡ false)
      → Advances kind priors filters network (unmarked (take i docs) marks) (unmarked (take j docs) marks) few few
  Advances-bare docs marks few i j up le whole none = unseen docs marks few (j - i) i j (omega (arith, up)) le whole (λ id low high. passes_unseen few (document_at docs id) (none id low high))

  pub Advances-by-each : (docs : List Document) (marks : List Bool) (few : Counted) (i j : ℕ) → i ≤ j → j ≤ length docs → length marks ≡ length docs
      → ((id : ℕ) → i ≤ id → id < j → PassesBy few (document_at docs id))
      → Advances kind priors filters network (unmarked (take i docs) marks) (unmarked (take j docs) marks) few few
  Advances-by-each docs marks few i j up le whole by = unseen docs marks few (j - i) i j (omega (arith, up)) le whole by

  -- documents whose candidates can't be among the first
  pub Advances-beaten : (docs : List Document) (marks : List Bool) (few : Counted) (i j least : ℕ) → i ≤ j → j ≤ length docs → length marks ≡ length docs → length network.leaves ≤ length network.stats
      → ((all more : List (Entry Window)) → WereOffered all few.kept → All (λ x. least ≤ x.leading) more → WereOffered (more ++ all) few.kept)
      → ((id : ℕ) → i ≤ id → id < j → AreFrom kind priors network least (document_at docs id))
      → Advances kind priors filters network (unmarked (take i docs) marks) (unmarked (take j docs) marks) few few
  Advances-beaten docs marks few i j least up le whole summed skip from =
      unseen docs marks few (j - i) i j (omega (arith, up)) le whole (λ id low high. passes_beaten few (document_at docs id) least summed skip (from id low high))

-- ---- ids of which none is marked, and all ids

pub ids-each : (marks : List Bool) (i : ℕ) → marked_count marks ≡ 0 → i ≤ length marks → live_ids marks i ≡ i
ids-each marks zero none le = refl
ids-each [] (suc i) none le = absurd (omega (arith, le))
ids-each (true ∷ marks) (suc i) none le = absurd (omega (arith, none))
ids-each (false ∷ marks) (suc i) none le = let rest = ids-each marks i none (omega (arith, le)) in omega (arith, rest)

pub ids-all : (marks : List Bool) → live_ids marks (length marks) + marked_count marks ≡ length marks
ids-all [] = omega arith
ids-all (true ∷ marks) = let rest = ids-all marks in omega (arith, rest)
ids-all (false ∷ marks) = let rest = ids-all marks in omega (arith, rest)

-- by what was read, and what the priors told, before
pub Advances-read : (kind : RuleKind) (told priors : List Prior) (filters : List FilterTree) (network : NetworkTree) (read docs : List Document) (marks : List Bool) (i j : ℕ) (few next : Counted) → told ≡ priors → read ≡ docs
    → Advances kind told filters network (unmarked (take i read) marks) (unmarked (take j read) marks) few next → Advances kind priors filters network (unmarked (take i docs) marks) (unmarked (take j docs) marks) few next
Advances-read kind told priors filters network read docs marks i j few next stay same h =
    subst (λ (ds : List Document). Advances kind priors filters network (unmarked (take i ds) marks) (unmarked (take j ds) marks) few next) same
    (subst (λ (ps : List Prior). Advances kind ps filters network (unmarked (take i read) marks) (unmarked (take j read) marks) few next) stay h)
