-- One step of a session: what an event makes of the state, and what is told. An event that is refused changes nothing.
use Rattle.std.specs.Prelude.{ℕ, ◌+◌, ◌-◌, Bool, ◌||◌, nat_le, nat_lt, is_some, List, [], ◌∷◌, ◌++◌, Option, None, Some, Result, Ok, Err, length, map, min, slice_get, unwrap_or, if◌then◌else◌}
use Rattle.std.specs.Set.{is_member}
use Rattle.std.specs.Str.{bytes_eq}
use Rattle.ri_base.specs.Documents.{Document}
use Rattle.ri_base.specs.Expression.{ExprTree}
use Rattle.query_check.specs.Check.{CheckedTree}
use Rattle.document_scoring.specs.Counts.{stats_of}
use Rattle.desk.specs.Answer.{document_with}
use Rattle.desk.specs.Priors.{names_with, priors_with}
use Rattle.holdings.specs.Parts.{without}
use Rattle.session_events.specs.declared.event.Event.{Event}
use Rattle.session_events.specs.declared.event.Event.TheVariants as event
use Rattle.desk.specs.Answers.{Entry, answer}
use Rattle.desk.specs.Asked.{asked, scanned}
use Rattle.desk.specs.Scanning.{extents_in}
use Rattle.desk.specs.State.{Merge, Query, State, closed, merged, named, opened, opened_merge, stepped, turned_merge, with_live, with_merge, with_queries}
use Rattle.desk.specs.Told as told
use Rattle.desk.specs.Told.{Told}
use Rattle.desk.specs.declared.query.TheConstants.{MAX_QUERIES}
use Rattle.desk.specs.declared.reply.Refusal.{Refusal}
use Rattle.desk.specs.declared.reply.Refusal.TheVariants.{NameTaken, NoSuchName, NotYet, DeskFull, NoMerge, NoSuchRank, MergeOpen, Repeated, CollectionFull, NoSuchDoc}

abbrev pub refuse : State → Refusal → State × Told
refuse s why = (s, told.refused why)

-- ---- documents

-- one of the documents has this docno
abbrev pub is_live : List ℕ → List Document → Bool
is_live docno docs = is_member bytes_eq (map (λ (d : Document). d.docno) docs) docno

-- with this document more documents or tokens would be held than may be
abbrev pub is_full : State → Document → Bool
is_full s d = nat_lt s.limits.held_docs (s.documents + 1) || nat_lt s.limits.held_tokens (s.tokens + length d.tokens)

abbrev pub add_step : State → Document → State × Told
add_step s d =
    if is_live d.docno s.live then refuse s (Repeated d.docno)
    else if is_full s d then refuse s (CollectionFull d.docno)
    else (with_live s (s.live ++ d ∷ []) (s.documents + 1) (s.tokens + length d.tokens), told.added d.docno (length d.tokens))

abbrev pub delete_step : State → List ℕ → State × Told
delete_step s docno =
    if is_live docno s.live then (with_live s (without docno s.live) s.documents s.tokens, told.deleted docno)
    else refuse s (NoSuchDoc docno)

-- ---- merges

abbrev pub merge_step : State → Option Merge → State × Told
merge_step s None = (with_merge s (Some (opened_merge s)), told.merging (length s.live))
merge_step s (Some m) = refuse s MergeOpen

-- below the size the merge stays open; else it is done
abbrev pub turn_step : State → ℕ → Option Merge → State × Told
turn_step s docs None = refuse s NoMerge
turn_step s docs (Some m) =
    if nat_lt (m.credit + docs) m.size then (with_merge s (Some (turned_merge m docs)), told.turned (m.credit + docs) m.size)
    else (merged s m, told.merged (length s.live))

-- ---- queries

-- a text is refused first, then a name that is taken, and last a query too many
abbrev pub open_step : State → List ℕ → ℕ → Result CheckedTree Refusal → State × Told
open_step s name k (Err why) = refuse s why
open_step s name k (Ok query) =
    if is_some (named name s.queries) then refuse s (NameTaken name)
    else if nat_le MAX_QUERIES (length s.queries) then refuse s (DeskFull name)
    else (with_queries s (s.queries ++ opened s name query k ∷ []), told.opened name (length s.live))

abbrev pub query_step : State → List ℕ → ℕ → Option Query → State × Told
query_step s name docs None = refuse s (NoSuchName name)
query_step s name docs (Some q) = (with_queries s (stepped name docs s.queries), told.stepped name (min (q.credit + docs) (length q.live)) (length q.live))

-- the answer of an open query: over its own live documents, whatever came later
abbrev pub answer_of : State → Query → List Entry
answer_of s q = answer s.kind (priors_with s.priors) q.query q.k q.live

abbrev pub show_step : State → List ℕ → Option Query → State × Told
show_step s name None = refuse s (NoSuchName name)
show_step s name (Some q) = if nat_lt q.credit (length q.live) then refuse s (NotYet name) else (s, told.results name q.query.scale (answer_of s q))

-- the document of this docno, of which there is one among those of an answer
abbrev pub document_named : List ℕ → List Document → Document
document_named docno docs = unwrap_or (document_with docno docs) (record { docno = docno; tokens = []; fields = [] })

abbrev pub line_of : State → Query → ℕ → Entry → told.Line
line_of s q rank e = record {
  names = names_with s.priors;
  query = q.query;
  stats = map (stats_of q.live) q.query.leaves;
  document = document_named e.candidate.docno q.live;
  rank = rank;
  entry = e;
}

abbrev pub ranked : State → List ℕ → ℕ → Query → Option Entry → State × Told
ranked s name rank q None = refuse s (NoSuchRank name)
ranked s name rank q (Some e) = (s, told.explained (line_of s q rank e))

-- ranks count from 1
abbrev pub explain_step : State → List ℕ → ℕ → Option Query → State × Told
explain_step s name rank None = refuse s (NoSuchName name)
explain_step s name rank (Some q) = if nat_lt q.credit (length q.live) then refuse s (NotYet name) else ranked s name rank q (slice_get (answer_of s q) (rank - 1))

abbrev pub close_step : State → List ℕ → Option Query → State × Told
close_step s name None = refuse s (NoSuchName name)
close_step s name (Some q) = (with_queries s (closed name s.queries), told.closed name)

-- ---- a scan

abbrev pub scan_step : State → Result ExprTree Refusal → State × Told
scan_step s (Err why) = refuse s why
scan_step s (Ok x) = (s, told.extents (extents_in x s.live))

-- ---- the step

unfoldable pub step : State → Event → State × Told
step s (event.Document d) = add_step s d
step s (event.Delete docno) = delete_step s docno
step s event.Flush = (s, told.flushed (length s.live))
step s event.Merge = merge_step s s.merge
step s (event.Turn docs) = turn_step s docs s.merge
step s (event.Open name k text) = open_step s name k (asked (names_with s.priors) text)
step s (event.Step name docs) = query_step s name docs (named name s.queries)
step s (event.Show name) = show_step s name (named name s.queries)
step s (event.Explain name rank) = explain_step s name rank (named name s.queries)
step s (event.Scan text) = scan_step s (scanned text)
step s (event.Close name) = close_step s name (named name s.queries)
step s event.End = (with_merge (with_queries s []) None, told.ended (length s.live))
