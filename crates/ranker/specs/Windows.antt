-- What a search holds, whatever the files tell: windows of documents, each with a belief of each leaf.
use Rattle.std.specs.Prelude.{◌≡◌, ◌≤◌, ◌++◌, ℕ, List, length, All, Contains}
use Rattle.ri_base.specs.Documents.{Document}
use Rattle.ri_base.specs.declared.hit.Hit.{Hit}
use Rattle.belief_nodes.specs.Network.{NetworkTree}
use Rattle.document_scoring.specs.Candidates.{Candidate, IsWindowOf}
use Rattle.ranker.specs.First.{AreEntries, KeptEntries, entry_candidate}
use Rattle.ranker.specs.Ranking.{candidate_of}
use Rattle.ranker.specs.declared.held.Held.{Held}
use Rattle.ranker.specs.declared.held.Held.TheVariants.{Open, Ended}

-- a window of one of some documents, with so many beliefs
abbrev pub IsWindowIn : List Document → ℕ → Candidate → Type 0
IsWindowIn docs leaves c = (d : Document) × Contains docs d × IsWindowOf d leaves c

-- hits that are windows of some documents, each with so many beliefs, and no more hits than so many
pub record AreWindows (docs : List Document) (leaves most : ℕ) (hits : List Hit) : Type 0 where
  pub each : All (λ hit. IsWindowIn docs leaves (candidate_of hit)) hits
  pub few : length hits ≤ most

-- what is held and kept are windows of documents, and at most so many are wanted
pub record HoldsWindows (docs : List Document) (leaves most : ℕ) (kept : KeptEntries) : Type 0 where
  pub each : All (λ x. IsWindowIn docs leaves (entry_candidate x)) (kept.held ++ kept.near)
  pub room : kept.most ≡ most

-- Whatever the documents are, where these are among them: what is held stays windows of documents, and entries of the network.
pub record KeepsWindows (network : NetworkTree) (own : List Document) (kept next : KeptEntries) : Type 0 where
  pub step : (docs : List Document) (most : ℕ) → All (Contains docs) own → HoldsWindows docs (length network.leaves) most kept → HoldsWindows docs (length network.leaves) most next
  pub entries : AreEntries network kept → AreEntries network next

-- windows of these documents are held, or are the results
abbrev pub HasWindows : List Document → ℕ → ℕ → Held → Type 0
HasWindows docs leaves most (Open kept) = HoldsWindows docs leaves most kept
HasWindows docs leaves most (Ended hits) = AreWindows docs leaves most hits
