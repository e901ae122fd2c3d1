-- What is held stays windows of documents, whatever the files tell.
use Rattle.std.proofs.Common.{◌≡◌, ◌<◌, ◌≤◌, ℕ, ◌+◌, Bool, false, List, [], ◌∷◌, ◌++◌, Option, Contains, length, map, get_or, sym, ap, subst, ◌∙◌, arith}
use Rattle.std.specs.List.{All}
use Rattle.std.proofs.lemmas.List.{length-append, length-map, nil_from_length}
use Rattle.std.proofs.lemmas.List.Elements.{All-append, All-cons, All-contains, All-contains_itself, All-head, All-map, All-nil, All-same, All-weaker}
use Rattle.std.proofs.lemmas.List.Sorted.{length_permutation}
use Rattle.ri_base.specs.Collection.{document_at}
use Rattle.ri_base.specs.Documents.{Document}
use Rattle.ri_base.specs.Ratio.{Ratio, ratio_of}
use Rattle.ri_base.specs.declared.hit.Hit.{Hit}
use Rattle.store_ends.specs.Files.{Files}
use Rattle.seg_codec.specs.Segment.{entry_of}
use Rattle.disk_index.specs.Snapshots.{Marked, live, unmarked}
use Rattle.belief_nodes.specs.Network.{NetworkTree}
use Rattle.document_scoring.specs.Candidates.{Candidate, IsWindowOf}
use Rattle.document_scoring.specs.Rows.{AddsRows, row_candidate}
use Rattle.document_scoring.specs.declared.scoring.Row.{Row}
use Rattle.bounded_keys.specs.Entries.{IsEarly, settled}
use Rattle.bounded_keys.specs.Kept.{AreAmong}
use Rattle.bounded_keys.specs.declared.entry.Entry.{Entry}
use Rattle.bounded_keys.specs.declared.entry.Settled.{Settled}
use Rattle.bounded_keys.proofs.Among.{all_among}
use Rattle.bounded_keys.proofs.Levels.{early_beliefs}
use Rattle.ranker.specs.First.{AreEntries, KeptEntries, WereOffered, early_of, entry_candidate, key_by, scale_of, settled_candidate}
use Rattle.ranker.specs.Ranking.{candidate_of}
use Rattle.ranker.specs.Windows.{AreWindows, HasWindows, HoldsWindows, IsWindowIn, KeepsWindows}
use Rattle.ranker.specs.declared.held.Held.{Held}
use Rattle.ranker.specs.declared.held.Held.TheVariants.{Open, Ended}
use Rattle.ranker.specs.declared.window.Window.{Window}
use Rattle.ranker.proofs.DocumentLemmas.{IsWindowIn-read, live-at, live-entries}
use Rattle.ranker.proofs.Lists.{All-unmap}
use Rattle.ranker.proofs.RankingLemmas.{late_beliefs, rows_early}

-- ---- before the first document

-- where nothing was offered, nothing is held or kept
none_kept : (kept : KeptEntries) → WereOffered [] kept → kept.held ++ kept.near ≡ []
none_kept kept offered =
    let gone : List (Entry Window) = offered.gone in
    let whole : length (kept.held ++ (kept.near ++ gone)) ≡ 0 = length_permutation [] (kept.held ++ (kept.near ++ gone)) offered.apart.split in
    let outer : length (kept.held ++ (kept.near ++ gone)) ≡ length kept.held + length (kept.near ++ gone) = length-append kept.held (kept.near ++ gone) in
    let inner : length (kept.near ++ gone) ≡ length kept.near + length gone = length-append kept.near gone in
    let both : length (kept.held ++ kept.near) ≡ length kept.held + length kept.near = length-append kept.held kept.near in
    nil_from_length (kept.held ++ kept.near) (omega (arith, whole, outer, inner, both))

pub AreEntries-none : (network : NetworkTree) (kept : KeptEntries) → kept.scale ≡ scale_of network → WereOffered [] kept → AreEntries network kept
AreEntries-none network kept scaled offered = record {
  scaled = scaled;
  each = subst (λ (xs : List (Entry Window)). All (IsEarly (key_by network) (length network.leaves)) xs) (sym (none_kept kept offered)) (All-nil (IsEarly (key_by network) (length network.leaves)));
}

-- ---- windows that are held stay held

candidate_early : (network : NetworkTree) (r : Row) → entry_candidate (early_of network r) ≡ row_candidate r
candidate_early network r = ap (λ (bs : List Ratio). record { docno = r.docno; begin = r.begin; end = r.end; beliefs = bs }) (early_beliefs r.fractions)

candidate_late : (network : NetworkTree) (x : Entry Window) → settled_candidate (settled (key_by network) x) ≡ entry_candidate x
candidate_late network x = ap (λ (bs : List Ratio). record { docno = x.window.docno; begin = x.window.begin; end = x.window.end; beliefs = bs }) (late_beliefs x.leaves)

-- the rows of a document have a belief of each leaf
pub rows_each : (d : Document) (leaves : ℕ) (rows : List Row) → AddsRows d leaves [] rows → All (λ row. length row.fractions ≡ leaves) rows
rows_each d leaves rows adds =
    All-same (λ row. length row.fractions ≡ leaves) rows adds.more adds.behind
    (All-weaker (λ row. IsWindowOf d leaves (row_candidate row)) (λ row. length row.fractions ≡ leaves) (λ row is. sym (length-map row.fractions ratio_of) ∙ is.each) adds.more adds.each)

module _ (network : NetworkTree) where
  pub KeepsWindows-same : (own : List Document) (kept : KeptEntries) → KeepsWindows network own kept kept
  KeepsWindows-same own kept = record { step = λ docs most among h. h; entries = λ h. h }

  pub KeepsWindows-then : (own : List Document) (kept then next : KeptEntries) → KeepsWindows network own kept then → KeepsWindows network own then next → KeepsWindows network own kept next
  KeepsWindows-then own kept held next first second = record { step = λ docs most among h. second.step docs most among (first.step docs most among h); entries = λ h. second.entries (first.entries h) }

  -- of fewer documents
  pub KeepsWindows-among : (own all : List Document) (kept next : KeptEntries) → All (Contains all) own → KeepsWindows network own kept next → KeepsWindows network all kept next
  KeepsWindows-among own all kept next inside h = record {
    step = λ docs most among held. h.step docs most (All-weaker (Contains all) (Contains docs) (λ d there. All-contains (Contains docs) all d among there) own inside) held;
    entries = h.entries;
  }

  -- of a live document of a part
  pub KeepsWindows-live : (docs : List Document) (marks : List Bool) (i : ℕ) (kept next : KeptEntries) → i < length docs → length marks ≡ length docs → get_or marks i false ≡ false
      → KeepsWindows network (document_at docs i ∷ []) kept next → KeepsWindows network (unmarked docs marks) kept next
  KeepsWindows-live docs marks i kept next lt whole live h =
      let all : List Document = unmarked docs marks in
      KeepsWindows-among (document_at docs i ∷ []) all kept next (All-cons (Contains all) (document_at docs i) [] (live-at docs marks i lt whole live) (All-nil (Contains all))) h

  -- the rows of a document are offered
  pub KeepsWindows-offered : (d : Document) (kept next : KeptEntries) (rows : List Row) → AddsRows d (length network.leaves) [] rows → next.most ≡ kept.most → next.scale ≡ kept.scale
      → AreAmong (next.held ++ next.near) (map (early_of network) rows ++ (kept.held ++ kept.near)) → KeepsWindows network (d ∷ []) kept next
  KeepsWindows-offered d kept next rows adds room scale among = record {
    step = λ docs most inside h.
        let P : Candidate → Type 0 = IsWindowIn docs (length network.leaves) in
        let there : Contains docs d = All-head (Contains docs) d [] inside in
        let added : All (λ row. P (row_candidate row)) adds.more = All-weaker (λ row. IsWindowOf d (length network.leaves) (row_candidate row)) (λ row. P (row_candidate row)) (λ row is. (d, there, is)) adds.more adds.each in
        let each : All (λ row. P (entry_candidate (early_of network row))) rows =
        All-weaker (λ row. P (row_candidate row)) (λ row. P (entry_candidate (early_of network row))) (λ row is. subst P (sym (candidate_early network row)) is) rows (All-same (λ row. P (row_candidate row)) rows adds.more adds.behind added) in
        record {
          each = all_among (λ x. P (entry_candidate x)) (next.held ++ next.near) (map (early_of network) rows ++ (kept.held ++ kept.near)) among
              (All-append (λ x. P (entry_candidate x)) (map (early_of network) rows) (kept.held ++ kept.near) (All-map (λ x. P (entry_candidate x)) (early_of network) rows each) h.each);
          room = room ∙ h.room;
        };
    entries = λ h. record {
      scaled = scale ∙ h.scaled;
      each = all_among (IsEarly (key_by network) (length network.leaves)) (next.held ++ next.near) (map (early_of network) rows ++ (kept.held ++ kept.near)) among
          (All-append (IsEarly (key_by network) (length network.leaves)) (map (early_of network) rows) (kept.held ++ kept.near) (rows_early network rows (rows_each d (length network.leaves) rows adds)) h.each);
    };
  }

  -- ---- the end

  -- the first in order are the results
  pub HasWindows-ended : (leaves : ℕ) (docs : List Document) (most : ℕ) (was : Held) (kept : KeptEntries) (front : List (Settled Window)) (hits : List Hit) → was ≡ Open kept
      → map candidate_of hits ≡ map settled_candidate front → length front ≤ kept.most → AreAmong front (map (settled (key_by network)) (kept.held ++ kept.near))
      → HasWindows docs leaves most was → HasWindows docs leaves most (Ended hits)
  HasWindows-ended leaves docs most was kept front hits is told short among h =
      let P : Candidate → Type 0 = IsWindowIn docs leaves in
      let held : HoldsWindows docs leaves most kept = subst (λ (x : Held). HasWindows docs leaves most x) is h in
      let late : All (λ x. P (settled_candidate (settled (key_by network) x))) (kept.held ++ kept.near) =
      All-weaker (λ x. P (entry_candidate x)) (λ x. P (settled_candidate (settled (key_by network) x))) (λ x w. subst P (sym (candidate_late network x)) w) (kept.held ++ kept.near) held.each in
      let shown : All (λ x. P (settled_candidate x)) front =
      all_among (λ x. P (settled_candidate x)) front (map (settled (key_by network)) (kept.held ++ kept.near)) among (All-map (λ x. P (settled_candidate x)) (settled (key_by network)) (kept.held ++ kept.near) late) in
      let mapped : All P (map candidate_of hits) = subst (All P) (sym told) (All-map P settled_candidate front shown) in
      let long : length hits ≡ length front = sym (length-map hits candidate_of) ∙ ap (λ (cs : List Candidate). length cs) told ∙ length-map front settled_candidate in
      let room = held.room in
      record { each = All-unmap candidate_of P hits mapped; few = omega (arith, long, short, room) }

module _ (leaves : ℕ) where
  -- ---- before the first document

  pub HoldsWindows-none : (docs : List Document) (most : ℕ) (kept : KeptEntries) → kept.most ≡ most → WereOffered [] kept → HoldsWindows docs leaves most kept
  HoldsWindows-none docs most kept room offered = record {
    each = subst (λ (xs : List (Entry Window)). All (λ x. IsWindowIn docs leaves (entry_candidate x)) xs) (sym (none_kept kept offered)) (All-nil (λ x. IsWindowIn docs leaves (entry_candidate x)));
    room = room;
  }

  pub AreWindows-none : (docs : List Document) (most : ℕ) → AreWindows docs leaves most []
  AreWindows-none docs most = record { each = All-nil (λ hit. IsWindowIn docs leaves (candidate_of hit)); few = omega arith }

  -- ---- by other files

  HasWindows-read : (docs others : List Document) (most : ℕ) (held : Held) → map entry_of docs ≡ map entry_of others → HasWindows docs leaves most held → HasWindows others leaves most held
  HasWindows-read docs others most (Open kept) same h = record {
    each = All-weaker (λ x. IsWindowIn docs leaves (entry_candidate x)) (λ x. IsWindowIn others leaves (entry_candidate x)) (λ x is. IsWindowIn-read leaves docs others (entry_candidate x) same is) (kept.held ++ kept.near) h.each;
    room = h.room;
  }
  HasWindows-read docs others most (Ended hits) same h = record {
    each = All-weaker (λ hit. IsWindowIn docs leaves (candidate_of hit)) (λ hit. IsWindowIn others leaves (candidate_of hit)) (λ hit is. IsWindowIn-read leaves docs others (candidate_of hit) same is) hits h.each;
    few = h.few;
  }

-- documents of parts were passed, as they read by some files: so it is by any
pub HasWindows-on : (network : NetworkTree) (told here : Option Files) (parts : List Marked) (most : ℕ) (was : Held) (kept next : KeptEntries) → was ≡ Open kept → KeepsWindows network (live here parts) kept next
    → HasWindows (live told parts) (length network.leaves) most was → HasWindows (live told parts) (length network.leaves) most (Open next)
HasWindows-on network told here parts most was kept next is keeps h =
    let leaves : ℕ = length network.leaves in
    let now : HasWindows (live here parts) leaves most was = HasWindows-read leaves (live told parts) (live here parts) most was (live-entries told here parts) h in
    HasWindows-read leaves (live here parts) (live told parts) most (Open next) (live-entries here told parts)
    (keeps.step (live here parts) most (All-contains_itself (live here parts)) (subst (λ (x : Held). HasWindows (live here parts) leaves most x) is now))
