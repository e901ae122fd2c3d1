-- The first candidates of documents, held as entries whose keys are known at the first level.
use Rattle.std.specs.Prelude.{◌≡◌, ◌≤◌, ◌+◌, ◌*◌, ◌++◌, ℕ, List, length, map, All}
use Rattle.std.specs.Cmp.Lexicographic.{slice_cmp}
use Rattle.std.specs.Ordering.{nat_cmp, ordering_then}
use Rattle.std.specs.declared.cmp.Ordering.{Ordering}
use Rattle.log_chain.specs.Progress.{digits_of}
use Rattle.log_chain.specs.declared.chain.TheConstants.{FIRST}
use Rattle.ri_base.specs.Documents.{Document}
use Rattle.ri_base.specs.Query.{FilterTree}
use Rattle.smoothing.specs.declared.rule.RuleKind.{RuleKind}
use Rattle.query_check.specs.Scale.{scale}
use Rattle.belief_nodes.specs.Keys.{key}
use Rattle.belief_nodes.specs.Network.{NetworkTree}
use Rattle.belief_nodes.specs.Priors.{Prior}
use Rattle.bounded_keys.specs.Digits.{belief, early}
use Rattle.bounded_keys.specs.Entries.{IsEarly, WereOffered as WereOfferedBy, settled}
use Rattle.bounded_keys.specs.Kept.{Kept}
use Rattle.bounded_keys.specs.declared.entry.Entry.{Entry}
use Rattle.bounded_keys.specs.declared.entry.Settled.{Settled}
use Rattle.document_scoring.specs.Candidates.{Candidate, candidates}
use Rattle.document_scoring.specs.Rows.{row_candidate}
use Rattle.document_scoring.specs.declared.scoring.Row.{Row}
use Rattle.ranker.specs.declared.window.Window.{Window}

-- by docno, begin and end
abbrev pub window_order : Window → Window → Ordering
window_order a b = ordering_then (slice_cmp nat_cmp a.docno b.docno) (ordering_then (nat_cmp a.begin b.begin) (nat_cmp a.end b.end))

abbrev pub window_of : Row → Window
window_of r = record { docno = r.docno; begin = r.begin; end = r.end }

-- the key of a network's leaves by their digits
abbrev pub key_by : NetworkTree → List ℕ → ℕ
key_by network digits = key digits network.tree

abbrev pub scale_of : NetworkTree → ℕ
scale_of network = scale network.tree

-- a row with the digits of its beliefs at the first level, and with their key there
abbrev pub early_of : NetworkTree → Row → Entry Window
early_of network r = record { leading = key_by network (map digits_of (early r.fractions)); window = window_of r; leaves = early r.fractions }

-- the same with all digits
abbrev pub late_of : NetworkTree → Row → Settled Window
late_of network r = settled (key_by network) (early_of network r)

-- what entries are of candidates
abbrev pub entry_candidate : Entry Window → Candidate
entry_candidate x = record { docno = x.window.docno; begin = x.window.begin; end = x.window.end; beliefs = map belief x.leaves }

abbrev pub settled_candidate : Settled Window → Candidate
settled_candidate x = record { docno = x.window.docno; begin = x.window.begin; end = x.window.end; beliefs = map belief x.leaves }

-- what is held and kept of entries
abbrev pub KeptEntries : Type 0
KeptEntries = Kept (Entry Window)

-- these entries were offered
abbrev pub WereOffered : List (Entry Window) → KeptEntries → Type 0
WereOffered all kept = WereOfferedBy window_order all kept

-- these are entries of the network's leaves, with their keys at the first level, under its scale
pub record AreEntries (network : NetworkTree) (kept : KeptEntries) : Type 0 where
  pub scaled : kept.scale ≡ scale_of network
  pub each : All (IsEarly (key_by network) (length network.leaves)) (kept.held ++ kept.near)

-- the entries of all candidates were offered, of which at most so many are wanted
pub record HoldsFirst (kind : RuleKind) (priors : List Prior) (filters : List FilterTree) (network : NetworkTree) (docs : List Document) (most : ℕ) (kept : KeptEntries) : Type 0 where
  pub rows : List Row
  pub all : map row_candidate rows ≡ candidates kind priors filters network docs
  pub each : All (λ row. length row.fractions ≡ length network.leaves) rows
  pub room : kept.most ≡ most
  pub scaled : kept.scale ≡ scale_of network
  pub offered : WereOffered (map (early_of network) rows) kept

-- what is held and kept, a count of squarings, and one of the bounds of ranges that were asked for
pub record Counted : Type 0 where
  pub kept : KeptEntries
  pub squares : ℕ
  pub asked : ℕ

abbrev pub counted : KeptEntries → ℕ → ℕ → Counted
counted kept squares asked = record { kept = kept; squares = squares; asked = asked }

-- the squarings of so many candidates or bounds up to the first level
abbrev pub early_cost : NetworkTree → ℕ → ℕ
early_cost network count = FIRST * length network.leaves * count

-- no more squarings were done than those of so many bounds more
abbrev pub AsksWithin : NetworkTree → ℕ → ℕ → ℕ → ℕ → Type 0
AsksWithin network was asked before now = now + early_cost network was ≤ before + early_cost network asked

-- no more squarings were done than those of the candidates of the new documents that the old ones don't have, and of so many bounds more
abbrev pub SpendsWithin : RuleKind → List Prior → List FilterTree → NetworkTree → List Document → List Document → ℕ → ℕ → ℕ → ℕ → Type 0
SpendsWithin kind priors filters network old new was asked before now =
    now + early_cost network (was + length (candidates kind priors filters network old)) ≤ before + early_cost network (asked + length (candidates kind priors filters network new))

-- Behind any documents: where the first candidates of these and the old ones were held, those of these and the new ones are held now. No
-- more squarings were done than those of the new candidates and of the bounds that were asked for.
pub record Advances (kind : RuleKind) (priors : List Prior) (filters : List FilterTree) (network : NetworkTree) (old new : List Document) (was now : Counted) : Type 0 where
  pub step : (before : List Document) (most : ℕ)
      → HoldsFirst kind priors filters network (before ++ old) most was.kept → HoldsFirst kind priors filters network (before ++ new) most now.kept
  pub cost : SpendsWithin kind priors filters network old new was.asked now.asked was.squares now.squares
