-- What is replied, as plain values, and when a reply shows them.
use Rattle.std.specs.Prelude.{◌≡◌, ℕ, Bool, true, false, List, Option, None, Some, map}
use Rattle.ri_base.specs.Documents.{Document}
use Rattle.ri_base.specs.Pair.{Pair}
use Rattle.ri_base.specs.declared.hit.Hit.{Hit}
use Rattle.ri_base.specs.declared.hit.LeafStats.{LeafStats}
use Rattle.query_check.specs.Check.{CheckedTree}
use Rattle.ranked_output.specs.declared.explained.Explained.{Explained}
use Rattle.result_explanation.specs.Explanation.{IsExplanation}
use Rattle.desk.specs.Answers.{Entry, entry_of}
use Rattle.desk.specs.declared.reply.Refusal.{Refusal}
use Rattle.desk.specs.declared.reply.Refusal.TheVariants.{NoSuchRank}
use Rattle.desk.specs.declared.reply.Reply.{Reply}
use Rattle.desk.specs.declared.reply.Reply.TheVariants as reply

-- a line of an answer, with the document in which it was found and all that it rests on
pub record Line : Type 0 where
  pub names : List (List ℕ)
  pub query : CheckedTree
  pub stats : List LeafStats
  pub document : Document
  pub rank : ℕ
  pub entry : Entry

pub data Told : Type 0 where
  added : List ℕ → ℕ → Told
  deleted : List ℕ → Told
  flushed : ℕ → Told
  merging : ℕ → Told
  turned : ℕ → ℕ → Told
  merged : ℕ → Told
  opened : List ℕ → ℕ → Told
  stepped : List ℕ → ℕ → ℕ → Told
  results : List ℕ → ℕ → List Entry → Told
  explained : Line → Told
  extents : List (List ℕ × Pair) → Told
  closed : List ℕ → Told
  ended : ℕ → Told
  refused : Refusal → Told

-- a hit is seen as its entry, an extent as its pair; an explanation tells each leaf in the hit's document
abbrev pub Shows : Told → Reply → Type 0
Shows (results name scale entries) r = (hits : List Hit) × ((r ≡ reply.Results name scale hits) × (map entry_of hits ≡ entries))
Shows (explained line) r = (e : Explained) × ((r ≡ reply.Explained e) × (IsExplanation line.names line.query line.stats line.document line.rank e.hit e × (entry_of e.hit ≡ line.entry)))
Shows (extents found) r = r ≡ reply.Extents found
Shows (added docno count) r = r ≡ reply.Added docno count
Shows (deleted docno) r = r ≡ reply.Deleted docno
Shows (flushed live) r = r ≡ reply.Flushed live
Shows (merging size) r = r ≡ reply.Merging size
Shows (turned credit size) r = r ≡ reply.Turned credit size
Shows (merged live) r = r ≡ reply.Merged live
Shows (opened name live) r = r ≡ reply.Opened name live
Shows (stepped name credit live) r = r ≡ reply.Stepped name credit live
Shows (closed name) r = r ≡ reply.Closed name
Shows (ended live) r = r ≡ reply.Ended live
Shows (refused why) r = r ≡ reply.Refused why

-- the files then stand for the live documents
abbrev pub is_flush_point : Told → Bool
is_flush_point (flushed live) = true
is_flush_point (merged live) = true
is_flush_point (ended live) = true
is_flush_point told = false

abbrev pub is_refusal : Told → Bool
is_refusal (refused why) = true
is_refusal told = false

-- It was refused so, or wasn't refused, just as the definition says.
abbrev pub RefusesAs : Reply → Told → Type 0
RefusesAs (reply.Refused why) told = told ≡ refused why
RefusesAs r told = is_refusal told ≡ false

-- ---- refusals that rest on no document

-- all but that of a rank, which rests on what a search has found
abbrev pub early : Refusal → Option Refusal
early (NoSuchRank name) = None
early why = Some why

abbrev pub told_early : Told → Option Refusal
told_early (refused why) = early why
told_early told = None

abbrev pub reply_early : Reply → Option Refusal
reply_early (reply.Refused why) = early why
reply_early r = None
