-- Where a query is opened.
use Rattle.std.proofs.Common.{◌≡◌, ◌∙◌, ◌≤◌, ℕ, Bool, true, false, List, [], ◌∷◌, ◌++◌, length, map, refl, sym, ap, subst, Option}
use Rattle.std.specs.Prelude.{Ok, Result, is_some, nat_le}
use Rattle.std.specs.List.{All, IsDistinct, position}
use Rattle.std.specs.Str.{bytes_eq}
use Rattle.std.proofs.lemmas.List.{length-map, map-append}
use Rattle.std.proofs.lemmas.List.Elements.{All-push}
use Rattle.ri_base.specs.Documents.{Document}
use Rattle.ri_base.specs.declared.hit.LeafStats.{LeafStats}
use Rattle.store_ends.specs.Files.{Files}
use Rattle.smoothing.specs.declared.rule.RuleKind.{RuleKind}
use Rattle.manifest.specs.declared.manifest.PriorEntry.{PriorEntry}
use Rattle.query_check.specs.Answers.{whole_checked}
use Rattle.query_check.specs.Check.{CheckedTree}
use Rattle.query_check.specs.Leaves.{leaf_tree}
use Rattle.query_check.specs.declared.checked.Checked.{Checked}
use Rattle.belief_nodes.specs.Network.{NetworkTree, network_of, network_tree}
use Rattle.belief_nodes.specs.Priors.{Prior}
use Rattle.disk_index.specs.Cache.{Cached}
use Rattle.disk_index.specs.Snapshots as snapshots
use Rattle.disk_index.specs.Snapshots.{AreBacked, Marked}
use Rattle.document_scoring.specs.Counts.{stats_of}
use Rattle.holdings.specs.MarkedParts.{docnos_of}
use Rattle.holdings.specs.Parts.{live}
use Rattle.counts.specs.Kept.{AreSums, Kept}
use Rattle.ranker.specs.Ranking.{query_network}
use Rattle.ranker.specs.Searches.{IsTaken, searched}
use Rattle.ranker.specs.declared.search.Search.{Search}
use Rattle.repository.specs.States as repositories
use Rattle.repository.specs.States.{part_numbers}
use Rattle.desk.specs.Priors.{priors_with}
use Rattle.session_events.specs.declared.event.Event.TheVariants as event
use Rattle.session_events.specs.declared.event.TheConstants.{MAX_RESULTS}
use Rattle.desk.specs.declared.reply.Refusal.{Refusal}
use Rattle.desk.specs.declared.reply.Refusal.TheVariants.{DeskFull, NameTaken}
use Rattle.desk.specs.declared.reply.Reply.{Reply}
use Rattle.desk.specs.declared.reply.Reply.TheVariants as reply
use Rattle.desk.specs.Asked.{asked}
use Rattle.desk.specs.Backed.{IsDeskBacked, Keeps, Steps, StepsTo, state_of}
use Rattle.desk.specs.Keeping.{AsksFor, IsOpen}
use Rattle.desk.specs.Queries.{AreListed, IsCacheKept, IsQueryBacked, priors_in, query_of}
use Rattle.desk.specs.State.{Query, State, collection_of, opened, with_queries}
use Rattle.desk.specs.Step.{open_step, refuse, step}
use Rattle.desk.specs.Told as replies
use Rattle.desk.specs.Told.{RefusesAs, Shows, Told, is_refusal}
use Rattle.desk.specs.declared.query.OpenQuery.{OpenQuery}
use Rattle.desk.specs.declared.query.TheConstants.{MAX_QUERIES}
use Rattle.desk.proofs.CacheLemmas.{listed-now}
use Rattle.desk.proofs.Cases.{open-full, open-opened, open-taken, step-open}
use Rattle.desk.proofs.Closing.{closed, closed-backed, closed-reads, lists-closed}
use Rattle.desk.proofs.Exits.{of-now, state-by}
use Rattle.desk.proofs.Keeping.{listed-on}
use Rattle.desk.proofs.Naming.{is-taken, is_named}
use Rattle.desk.proofs.ReadingExits.{names-told}

-- the part that was being filled is closed, one query more is open, and sums and blocks were kept
abbrev pub with_opened : Keeps → OpenQuery → List Kept → Cached → Keeps
with_opened d q counts cache = record { repository = closed d.repository; kind = d.kind; queries = d.queries ++ q ∷ []; counts = counts; cache = cache; usable = d.usable }

-- a step to a state that is given by what it is
pub steps-to : (to from : State × Told) (after : Option Files) (n : Keeps) (r : Reply) → from ≡ to → state_of after n ≡ to.0 → Shows to.1 r → IsDeskBacked after n → StepsTo from after n r
steps-to to from after n r is state shows backed = record {
  state = state ∙ ap (λ (x : State × Told). x.0) (sym is);
  shows = subst (λ (t : Told). Shows t r) (ap (λ (x : State × Told). x.1) (sym is)) shows;
  backed = backed;
}

-- the step of a query is by what its text asks for, where these are the names of the priors
pub open-asked : (told : Option Files) (d : Keeps) (name : List ℕ) (k : ℕ) (text : List ℕ) (names : List (List ℕ)) (r : Result CheckedTree Refusal) → names ≡ map (λ (e : PriorEntry). e.name) d.repository.priors → asked names text ≡ r
    → step (state_of told d) (event.Open name k text) ≡ open_step (state_of told d) name k r
open-asked told d name k text names r own is =
    step-open (state_of told d) name k text r (ap (λ ns. asked ns text) (names-told told d.repository.priors ∙ sym own) ∙ is)

pub steps-asked : (told after : Option Files) (d new : Keeps) (name : List ℕ) (k : ℕ) (text : List ℕ) (names : List (List ℕ)) (r : Result CheckedTree Refusal) (y : Reply) → names ≡ map (λ (e : PriorEntry). e.name) d.repository.priors → asked names text ≡ r
    → StepsTo (open_step (state_of told d) name k r) after new y → Steps (event.Open name k text) told after d new y
steps-asked told after d new name k text names r y own is done = subst (λ (x : State × Told). StepsTo x after new y) (sym (open-asked told d name k text names r own is)) done

pub refuses-asked : (told : Option Files) (d : Keeps) (name : List ℕ) (k : ℕ) (text : List ℕ) (names : List (List ℕ)) (r : Result CheckedTree Refusal) (y : Reply) → names ≡ map (λ (e : PriorEntry). e.name) d.repository.priors → asked names text ≡ r
    → RefusesAs y (open_step (state_of told d) name k r).1 → RefusesAs y (step (state_of told d) (event.Open name k text)).1
refuses-asked told d name k text names r y own is done = subst (λ (x : State × Told). RefusesAs y x.1) (sym (open-asked told d name k text names r own is)) done

-- where the query is refused
pub open-refusal : (told : Option Files) (d now : Keeps) (name : List ℕ) (k : ℕ) (tree : CheckedTree) (why : Refusal) → d ≡ now → open_step (state_of told d) name k (Ok tree) ≡ refuse (state_of told d) why → IsDeskBacked told now
    → StepsTo (open_step (state_of told now) name k (Ok tree)) told now (reply.Refused why)
open-refusal told d now name k tree why same is backed =
    of-now told d now (λ (x : Keeps). StepsTo (open_step (state_of told x) name k (Ok tree)) told x (reply.Refused why)) same
    (λ b. steps-to (refuse (state_of told d) why) (open_step (state_of told d) name k (Ok tree)) told d (reply.Refused why) is refl refl b) backed

module _ (told : Option Files) (d : Keeps) (name : List ℕ) (k : ℕ) (tree : CheckedTree) where
  pub taken-refused : is_some (position (is_named name) d.queries) ≡ true → open_step (state_of told d) name k (Ok tree) ≡ refuse (state_of told d) (NameTaken name)
  taken-refused taken = open-taken (state_of told d) name k tree (is-taken told name d.queries true taken)

  few-told : (b : Bool) → nat_le MAX_QUERIES (length d.queries) ≡ b → nat_le MAX_QUERIES (length (state_of told d).queries) ≡ b
  few-told b room = ap (nat_le MAX_QUERIES) (length-map d.queries (query_of told)) ∙ room

  pub full-refused : is_some (position (is_named name) d.queries) ≡ false → nat_le MAX_QUERIES (length d.queries) ≡ true → open_step (state_of told d) name k (Ok tree) ≡ refuse (state_of told d) (DeskFull name)
  full-refused free full = open-full (state_of told d) name k tree (is-taken told name d.queries false free) (few-told true full)

  pub open-accepted : is_some (position (is_named name) d.queries) ≡ false → nat_le MAX_QUERIES (length d.queries) ≡ false
      → open_step (state_of told d) name k (Ok tree) ≡ (with_queries (state_of told d) ((state_of told d).queries ++ opened (state_of told d) name tree k ∷ []), replies.opened name (length (state_of told d).live))
  open-accepted free room = open-opened (state_of told d) name k tree (is-taken told name d.queries false free) (few-told false room)

  -- the query has the live documents of now
  pub record IsOfNow (q : OpenQuery) : Type 0 where
    pub name_is : q.name ≡ name
    pub documents : searched told q.search ≡ live told d.repository.held.parts
    pub checked : whole_checked q.search.checked ≡ tree
    pub most : q.search.most ≡ k
    pub credit : q.search.at.credit ≡ 0

  reads-opened : (q : OpenQuery) → IsOfNow q → query_of told q ≡ opened (state_of told d) name tree k
  reads-opened q now = λ i. record { name = now.name_is i; live = now.documents i; query = now.checked i; k = now.most i; credit = now.credit i }

  open-exit : (after : Option Files) (q : OpenQuery) (counts : List Kept) (cache : Cached) (live_now : ℕ) → after ≡ told → IsOfNow q → is_some (position (is_named name) d.queries) ≡ false → nat_le MAX_QUERIES (length d.queries) ≡ false
      → live_now ≡ length (live told d.repository.held.parts) → IsQueryBacked told (closed d.repository) d.kind q → AreSums (live told d.repository.held.parts) d.repository.held.generation counts → IsCacheKept told d.repository cache
      → IsDeskBacked told d → StepsTo (open_step (state_of told d) name k (Ok tree)) after (with_opened d q counts cache) (reply.Opened name live_now)
  open-exit after q counts cache live_now same now free room count one sums kept backed =
      let r = closed d.repository in
      let n = with_opened d q counts cache in
      let queries : map (query_of told) (d.queries ++ q ∷ []) ≡ map (query_of told) d.queries ++ opened (state_of told d) name tree k ∷ [] =
      map-append (query_of told) d.queries (q ∷ []) ∙ ap (λ (x : Query). map (query_of told) d.queries ++ x ∷ []) (reads-opened q now) in
      let state = state-by told n (collection_of (state_of told d)) _ _ _ _ (closed-reads told d backed) queries refl refl refl in
      let rest = closed-backed told d backed counts cache sums kept in
      let all : IsDeskBacked told n = record {
        repository = rest.repository;
        queries = All-push (IsQueryBacked told r d.kind) d.queries q rest.queries one;
        merge = rest.merge;
        counts = rest.counts;
        cache = rest.cache;
      } in
      steps-to _ _ after n (reply.Opened name live_now) (open-accepted free room) (ap (λ (f : Option Files). state_of f n) same ∙ state) (ap (reply.Opened name) count)
      (subst (λ (f : Option Files). IsDeskBacked f n) (sym same) all)

-- whatever the files are, a query is refused so, or it isn't
pub open-refused-by : (told : Option Files) (d now : Keeps) (name : List ℕ) (k : ℕ) (tree : CheckedTree) (why : Refusal) → d ≡ now → open_step (state_of told d) name k (Ok tree) ≡ refuse (state_of told d) why
    → (open_step (state_of told now) name k (Ok tree)).1 ≡ replies.refused why
open-refused-by told d now name k tree why same is = subst (λ (x : Keeps). (open_step (state_of told x) name k (Ok tree)).1 ≡ replies.refused why) same (ap (λ (x : State × Told). x.1) is)

pub open-accepted-by : (told : Option Files) (d now : Keeps) (name : List ℕ) (k : ℕ) (tree : CheckedTree) → d ≡ now → is_some (position (is_named name) d.queries) ≡ false → nat_le MAX_QUERIES (length d.queries) ≡ false
    → is_refusal (open_step (state_of told now) name k (Ok tree)).1 ≡ false
open-accepted-by told d now name k tree same free room =
    subst (λ (x : Keeps). is_refusal (open_step (state_of told x) name k (Ok tree)).1 ≡ false) same (ap (λ (x : State × Told). is_refusal x.1) (open-accepted told d name k tree free room))

-- What a new search is of, whatever the files are.
pub record IsNewSearch (snapshot : List Marked) (checked : Checked) (stats : List LeafStats) (k : ℕ) (s : Search) : Type 0 where
  pub snapshot_is : s.snapshot ≡ snapshot
  pub checked_is : s.checked ≡ checked
  pub network_is : network_tree s.network ≡ network_of checked stats
  pub most_is : s.most ≡ k
  pub credit_is : s.at.credit ≡ 0
  pub usable_is : s.usable ≡ true

pub new-search : (snapshot : List Marked) (checked : Checked) (stats : List LeafStats) (k : ℕ) (s : Search) → s.snapshot ≡ snapshot → s.checked ≡ checked → network_tree s.network ≡ network_of checked stats → s.most ≡ k → s.at.credit ≡ 0 → s.usable ≡ true
    → IsNewSearch snapshot checked stats k s
new-search snapshot checked stats k s a b n m e u = record { snapshot_is = a; checked_is = b; network_is = n; most_is = m; credit_is = e; usable_is = u }

-- It is an open query of its snapshot.
pub open-new : (count : ℕ) (name : List ℕ) (snapshot : List Marked) (checked : Checked) (stats : List LeafStats) (k : ℕ) (q : OpenQuery) → IsNewSearch snapshot checked stats k q.search → IsDistinct bytes_eq (docnos_of snapshot) → k ≤ MAX_RESULTS
    → All (AsksFor count) (whole_checked checked).leaves → IsOpen count q
open-new count name snapshot checked stats k q new distinct few asks =
    let s = q.search in
    let own : stats ≡ (network_tree s.network).stats = sym (ap (λ (n : NetworkTree). n.stats) new.network_is) in
    record {
      usable = new.usable_is;
      network = new.network_is ∙ ap (λ (ss : List LeafStats). network_of checked ss) own ∙ ap (λ (c : Checked). network_of c (network_tree s.network).stats) (sym new.checked_is);
      distinct = subst (λ (ms : List Marked). IsDistinct bytes_eq (docnos_of ms)) (sym new.snapshot_is) distinct;
      few = subst (λ n. n ≤ MAX_RESULTS) (sym new.most_is) few;
      priors = subst (λ (n : NetworkTree). All (AsksFor count) n.leaves) (sym new.network_is) asks;
    }

module _ (told : Option Files) (d : Keeps) (name : List ℕ) (k : ℕ) (checked : Checked) (snapshot : List Marked) (stats : List LeafStats) (q : OpenQuery) (new : IsNewSearch snapshot checked stats k q.search) (named_so : q.name ≡ name)
    (documents : snapshots.live told snapshot ≡ live told d.repository.held.parts) where
  of-now-new : IsOfNow told d name k (whole_checked checked) q
  of-now-new = record {
    name_is = named_so;
    documents = ap (λ (ms : List Marked). snapshots.live told ms) new.snapshot_is ∙ documents;
    checked = ap whole_checked new.checked_is;
    most = new.most_is;
    credit = new.credit_is;
  }

  -- it is backed where its snapshot is
  query-new : part_numbers snapshot ≡ part_numbers d.repository.held.parts.closed → AreBacked told snapshot → ((kind : RuleKind) (priors : List Prior) → IsTaken kind priors told q.search)
      → stats ≡ map (stats_of (snapshots.live told snapshot)) (map leaf_tree checked.leaves.items) → IsQueryBacked told (closed d.repository) d.kind q
  query-new numbers stored taken counted =
      let r = closed d.repository in
      let docs : snapshots.live told snapshot ≡ searched told q.search = ap (λ (ms : List Marked). snapshots.live told ms) (sym new.snapshot_is) in
      record {
        snapshot = subst (λ (ms : List Marked). AreBacked told ms) (sym new.snapshot_is) stored;
        listed = subst (λ (ms : List Marked). AreListed r (part_numbers ms)) (sym new.snapshot_is) (listed-on d.repository r (part_numbers snapshot) (lists-closed d.repository) (listed-now d.repository snapshot numbers));
        taken = taken d.kind (priors_with (priors_in told r.priors));
        network = new.network_is ∙ ap (network_of checked) counted ∙ (λ i. query_network (whole_checked (sym new.checked_is i)) (docs i));
      }

  abbrev opened_with : repositories.State → List OpenQuery → List Kept → Cached → Keeps
  opened_with r all counts cache = record { repository = r; kind = d.kind; queries = all; counts = counts; cache = cache; usable = d.usable }

  -- The query is opened.
  pub open-done : (after : Option Files) (now : Keeps) (r : repositories.State) (all : List OpenQuery) (counts : List Kept) (cache : Cached) (live_now : ℕ) (told_name : List ℕ) → d ≡ now → r ≡ closed d.repository → all ≡ d.queries ++ q ∷ [] → told_name ≡ name → after ≡ told
      → is_some (position (is_named name) d.queries) ≡ false → nat_le MAX_QUERIES (length d.queries) ≡ false → live_now ≡ length (snapshots.live told snapshot)
      → part_numbers snapshot ≡ part_numbers d.repository.held.parts.closed → (IsDeskBacked told d → AreBacked told snapshot) → (IsDeskBacked told d → (kind : RuleKind) (priors : List Prior) → IsTaken kind priors told q.search)
      → (IsDeskBacked told d → stats ≡ map (stats_of (snapshots.live told snapshot)) (map leaf_tree checked.leaves.items))
      → (IsDeskBacked told d → AreSums (snapshots.live told snapshot) d.repository.held.generation counts) → (IsDeskBacked told d → IsCacheKept told d.repository cache) → IsDeskBacked told now
      → StepsTo (open_step (state_of told now) name k (Ok (whole_checked checked))) after (opened_with r all counts cache) (reply.Opened told_name live_now)
  open-done after now r all counts cache live_now told_name same made pushed copied stay free room count numbers stored taken counted sums kept backed =
      of-now told d now
      (λ (x : Keeps). StepsTo (open_step (state_of told x) name k (Ok (whole_checked checked))) after (opened_with r all counts cache) (reply.Opened told_name live_now)) same
      (λ b.
      let from = open_step (state_of told d) name k (Ok (whole_checked checked)) in
      subst (λ (x : repositories.State). StepsTo from after (opened_with x all counts cache) (reply.Opened told_name live_now)) (sym made)
      (subst (λ (qs : List OpenQuery). StepsTo from after (opened_with (closed d.repository) qs counts cache) (reply.Opened told_name live_now)) (sym pushed)
      (subst (λ (n : List ℕ). StepsTo from after (opened_with (closed d.repository) (d.queries ++ q ∷ []) counts cache) (reply.Opened n live_now)) (sym copied)
      (open-exit told d name k (whole_checked checked) after q counts cache live_now stay of-now-new free room (count ∙ ap length documents) (query-new numbers (stored b) (taken b) (counted b))
      (subst (λ (docs : List Document). AreSums docs d.repository.held.generation counts) documents (sums b)) (kept b) b))))
      backed
