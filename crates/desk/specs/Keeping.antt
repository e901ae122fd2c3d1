-- What a desk keeps of its open queries, and where an event is refused, whatever the files are.
use Rattle.std.specs.Prelude.{◌≡◌, ◌≤◌, ◌<◌, ◌-◌, ◌^◌, ◌⊎◌, ⊤, ℕ, Contains, List, true, length}
use Rattle.std.specs.List.{All, IsDistinct}
use Rattle.std.specs.Str.{bytes_eq}
use Rattle.query_check.specs.Leaves.{LeafTree, extents, prior}
use Rattle.belief_nodes.specs.Network.{network_tree}
use Rattle.counts.specs.Kept.{Kept}
use Rattle.holdings.specs.MarkedParts.{docnos_of}
use Rattle.desk.specs.Searching.{HasNetwork}
use Rattle.repository.specs.States.{State}
use Rattle.session_events.specs.declared.event.TheConstants.{MAX_RESULTS}
use Rattle.desk.specs.Backed.{Keeps}
use Rattle.desk.specs.declared.query.TheConstants.{MAX_QUERIES}
use Rattle.desk.specs.declared.query.OpenQuery.{OpenQuery}
use Rattle.desk.specs.declared.reply.Reply.{Reply}
use Rattle.desk.specs.declared.reply.Reply.TheVariants as reply

-- a leaf is no prior, or one of the first so many, or that of the lengths, which is the ninth
abbrev pub AsksFor : ℕ → LeafTree → Type 0
AsksFor count (extents x context) = ⊤
AsksFor count (prior n) = (n < count) ⊎ (n ≡ 8)

-- An open search may be used, its network is that of its query, and it asks for none but so many priors and that of the lengths. No
-- two of its documents have one docno.
pub record IsOpen (count : ℕ) (q : OpenQuery) : Type 0 where
  pub usable : q.search.usable ≡ true
  pub network : HasNetwork q.search
  pub distinct : IsDistinct bytes_eq (docnos_of q.search.snapshot)
  pub few : q.search.most ≤ MAX_RESULTS
  pub priors : All (AsksFor count) (network_tree q.search.network).leaves

-- none of these sums is kept for the greatest generation, which may stand for several
abbrev pub AreEarly : List Kept → Type 0
AreEarly counts = (e : Kept) → Contains counts e → e.generation < 2 ^ 64 - 1

-- the open queries of a desk over this repository, and the sums that it keeps
pub record AreKept (s : State) (queries : List OpenQuery) (counts : List Kept) : Type 0 where
  pub few : length queries ≤ MAX_QUERIES
  pub each : All (IsOpen (length s.priors)) queries
  pub early : AreEarly counts

-- an event that is refused changes nothing of what is kept
abbrev pub StaysIfRefused : Reply → Keeps → Keeps → Type 0
StaysIfRefused (reply.Refused why) old new = new ≡ old
StaysIfRefused r old new = Unit {0}
