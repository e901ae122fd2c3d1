-- How many squarings the candidates of documents cost.
use Rattle.std.specs.Prelude.{ℕ, ◌+◌, ◌-◌, ◌*◌, if◌then◌else◌, Bool, List, length, map}
use Rattle.log_chain.specs.declared.chain.TheConstants.{FIRST, LAST}
use Rattle.belief_nodes.specs.Keys.{digits_at}
use Rattle.belief_nodes.specs.Network.{NetworkTree}
use Rattle.bounded_keys.specs.Entries.{in_question}
use Rattle.bounded_keys.specs.declared.entry.Entry.{Entry}
use Rattle.document_scoring.specs.Candidates.{Candidate}
use Rattle.ranker.specs.First.{early_cost, key_by, scale_of}
use Rattle.ranker.specs.declared.window.Window.{Window}

-- a candidate with the digits of its beliefs at the first level, and with their key there
abbrev pub entry_by : NetworkTree → Candidate → Entry Window
entry_by network c = record {
  leading = key_by network (digits_at FIRST c.beliefs);
  window = record { docno = c.docno; begin = c.begin; end = c.end };
  leaves = map (λ r. record { p = r.p; q = r.q; level = FIRST }) c.beliefs;
}

-- the further squarings of those candidates that may be among the first by their keys
abbrev pub late_cost : NetworkTree → ℕ → List Candidate → ℕ
late_cost network most cs = (LAST - FIRST) * length network.leaves * length (in_question (scale_of network) most (map (entry_by network) cs))

-- the squarings of so many bounds and candidates up to the first level, and, once none is to come, those of these candidates up to the last
abbrev pub spent : NetworkTree → ℕ → Bool → ℕ → List Candidate → ℕ
spent network most more early cs = early_cost network early + (if more then 0 else late_cost network most cs)
