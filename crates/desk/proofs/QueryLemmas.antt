-- An open query that gets more credit.
use Rattle.std.proofs.Common.{◌≡◌, ◌≤◌, ◌+◌, ℕ, List, Option, length, min, sym, ap, subst, ◌∙◌, arith}
use Rattle.std.specs.List.{All}
use Rattle.std.proofs.lemmas.List.{length-map}
use Rattle.std.proofs.lemmas.List.Elements.{All-weaker}
use Rattle.store_ends.specs.Files.{Files}
use Rattle.smoothing.specs.declared.rule.RuleKind.{RuleKind}
use Rattle.query_check.specs.Leaves as leaves
use Rattle.query_check.specs.Leaves.{LeafTree}
use Rattle.belief_nodes.specs.Network.{network_tree}
use Rattle.belief_nodes.specs.Priors as nodes
use Rattle.belief_nodes.specs.Priors.{prior_at}
use Rattle.manifest.specs.declared.manifest.PriorEntry.{PriorEntry}
use Rattle.disk_index.specs.Snapshots.{AreBacked, Marked, live}
use Rattle.ranker.specs.Ranking.{query_network}
use Rattle.ranker.specs.Searches.{IsSameSearch, IsTaken, searched}
use Rattle.ranker.specs.declared.search.Search.{Search}
use Rattle.repository.specs.States.{State, part_numbers}
use Rattle.desk.specs.Priors.{priors_with}
use Rattle.desk.specs.Backed.{Keeps}
use Rattle.desk.specs.Keeping.{AsksFor}
use Rattle.desk.specs.Plugs.{ArePlugs}
use Rattle.desk.specs.Queries.{AreListed, IsQueryBacked, priors_in, query_of, table_in}
use Rattle.desk.specs.State.{advanced}
use Rattle.desk.specs.declared.query.OpenQuery.{OpenQuery}
use Rattle.desk.proofs.Known.{plugs-alike}
use Rattle.desk.proofs.Plugs.{TellsAlike, alike-turned, taken-alike}

-- it reads as it did, with more credit
pub query-advanced : (told : Option Files) (docs : ℕ) (q r : OpenQuery) → r.name ≡ q.name → IsSameSearch q.search r.search → r.search.at.credit ≡ min (q.search.at.credit + docs) (length (searched told q.search))
    → query_of told r ≡ advanced docs (query_of told q)
query-advanced told docs q r named same credit = λ i. record { name = named i; live = live told (same.snapshot i); query = same.checked i; k = same.most i; credit = credit i }

-- how many documents it has
pub live-advanced : (told : Option Files) (q r : Search) (n : ℕ) → IsSameSearch q r → n ≡ length (live told r.snapshot) → n ≡ length (searched told q)
live-advanced told q r n same is = is ∙ ap (λ (ms : List Marked). length (live told ms)) same.snapshot

-- ---- what the plugs tell is what the priors tell

priors-length : (told : Option Files) (entries : List PriorEntry) → length (priors_in told entries) ≡ length entries
priors-length told entries = length-map entries (λ (e : PriorEntry). record { name = e.name; table = table_in told e.number })

asks-alike : (told : Option Files) (entries : List PriorEntry) (plugs : List nodes.Prior) → length entries ≤ 8 → ArePlugs (priors_in told entries) plugs → (ls : List LeafTree) → All (AsksFor (length entries)) ls
    → All (TellsAlike plugs (priors_with (priors_in told entries))) ls
asks-alike told entries plugs few are ls asks =
    let long = priors-length told entries in
    All-weaker (AsksFor (length entries)) (TellsAlike plugs (priors_with (priors_in told entries)))
    (λ l ask. plugs-alike (priors_in told entries) plugs are (omega (arith, few, long)) l (subst (λ n. AsksFor n l) (sym long) ask)) ls asks

turned : (a b : List nodes.Prior) (l : LeafTree) → TellsAlike a b l → TellsAlike b a l
turned a b (leaves.extents x context) alike = tt
turned a b (leaves.prior n) alike = alike-turned (prior_at a n) (prior_at b n) alike

-- what is told alike one way round is so the other way round
alike-back : (a b : List nodes.Prior) (ls : List LeafTree) → All (TellsAlike a b) ls → All (TellsAlike b a) ls
alike-back a b ls all = All-weaker (TellsAlike a b) (TellsAlike b a) (turned a b) ls all

-- the plugs of a desk that is seen as another
pub plugs-moved : (told : Option Files) (d now : Keeps) (plugs : List nodes.Prior) → d ≡ now → ArePlugs (priors_in told now.repository.priors) plugs → ArePlugs (priors_in told d.repository.priors) plugs
plugs-moved told d now plugs same are = subst (λ (x : Keeps). ArePlugs (priors_in told x.repository.priors) plugs) (sym same) are

-- ---- it stays backed

module _ (before : Option Files) (s : State) (kind : RuleKind) (q r : OpenQuery) where
  -- by files that are the same
  pub query-backed : (after : Option Files) → after ≡ before → IsSameSearch q.search r.search → IsTaken kind (priors_with (priors_in before s.priors)) before r.search → IsQueryBacked before s kind q → IsQueryBacked after s kind r
  query-backed after stay same taken backed = subst (λ (f : Option Files). IsQueryBacked f s kind r) (sym stay) (record {
    snapshot = subst (AreBacked before) (sym same.snapshot) backed.snapshot;
    listed = subst (λ (ms : List Marked). AreListed s (part_numbers ms)) (sym same.snapshot) backed.listed;
    taken = taken;
    network = same.network ∙ backed.network ∙ (λ i. query_network (sym same.checked i) (live before (sym same.snapshot i)));
  })

  -- where a step took what is right by the plugs
  pub steps-backed : (after : Option Files) (plugs : List nodes.Prior) → after ≡ before → length s.priors ≤ 8 → All (AsksFor (length s.priors)) (network_tree q.search.network).leaves → ArePlugs (priors_in before s.priors) plugs
      → IsSameSearch q.search r.search → (IsTaken kind plugs before q.search → IsTaken kind plugs before r.search) → IsQueryBacked before s kind q → IsQueryBacked after s kind r
  steps-backed after plugs stay few asks are same step backed =
      let priors = priors_with (priors_in before s.priors) in
      let alike : All (TellsAlike plugs priors) (network_tree q.search.network).leaves = asks-alike before s.priors plugs few are (network_tree q.search.network).leaves asks in
      let there : All (TellsAlike plugs priors) (network_tree r.search.network).leaves = subst (λ n. All (TellsAlike plugs priors) n.leaves) (sym same.network) alike in
      let by_plugs = taken-alike kind priors plugs before q.search (alike-back plugs priors (network_tree q.search.network).leaves alike) backed.taken in
      query-backed after stay same (taken-alike kind plugs priors before r.search there (step by_plugs)) backed
