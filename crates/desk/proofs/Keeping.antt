-- How a desk stays backed, part by part.
use Rattle.std.proofs.Common.{◌≡◌, ℕ, true, List, [], ◌∷◌, ◌++◌, map, refl, sym, ap, subst, ◌∙◌, arith, Some, None, Option}
use Rattle.std.specs.Prelude.{Contains}
use Rattle.std.specs.List.{All}
use Rattle.std.specs.Option.{IfSome}
use Rattle.std.proofs.lemmas.List.Elements.{All-head, All-nil, All-tail, All-weaker}
use Rattle.ri_base.specs.Documents.{Document}
use Rattle.store_ends.specs.Files.{Files, SameWhere}
use Rattle.smoothing.specs.declared.rule.RuleKind.{RuleKind}
use Rattle.manifest.specs.Listing.{prior_numbers}
use Rattle.disk_index.specs.Cache.{Cached, nothing_cached}
use Rattle.disk_index.proofs.CacheLemmas.{new-cache}
use Rattle.holdings.specs.Contents.{Contents}
use Rattle.holdings.specs.Parts.{live}
use Rattle.holdings.specs.declared.limits.Limits.{Limits}
use Rattle.merge_job.specs.Merge.{Merging}
use Rattle.repository.specs.Merges.{IsMerging, IsOpenMerging}
use Rattle.repository.specs.Numbers.{is_among}
use Rattle.repository.specs.Stands.{Prior}
use Rattle.repository.specs.States as repositories
use Rattle.repository.specs.Saved.{IsUnlisted}
use Rattle.repository.specs.States.{IsBacked, listed_numbers, part_numbers}
use Rattle.repository.specs.Steps.{with_held}
use Rattle.repository.specs.Writes.{IsBeside}
use Rattle.query_check.specs.Answers.{whole_checked}
use Rattle.desk.specs.Priors.{priors_with}
use Rattle.desk.proofs.AnswerLemmas.{empty-sums}
use Rattle.ranker.specs.Ranking.{query_network}
use Rattle.ranker.specs.Searches.{IsTaken}
use Rattle.desk.proofs.Frames.{Stay, backed-same, cache-same, listed-stays, live-same, taken-same}
use Rattle.desk.specs.Backed.{IsDeskBacked, IsMergeBacked, Keeps}
use Rattle.desk.specs.Queries.{AreListed, IsCacheKept, IsQueryBacked, priors_in, query_of}
use Rattle.desk.specs.State.{Merge, Query, State}
use Rattle.desk.specs.declared.query.OpenQuery.{OpenQuery}

abbrev pub state_at : List Document → ℕ → ℕ → List Prior → List Query → Option Merge → Limits → RuleKind → State
state_at live documents tokens priors queries merge limits kind = record { live = live; documents = documents; tokens = tokens; priors = priors; queries = queries; merge = merge; limits = limits; kind = kind }

-- states with the same parts
pub state-eq : {l l' : List Document} {d d' t t' : ℕ} {p p' : List Prior} {q q' : List Query} {m m' : Option Merge} {b b' : Limits} {k k' : RuleKind} → l ≡ l' → d ≡ d' → t ≡ t' → p ≡ p' → q ≡ q' → m ≡ m' → b ≡ b' → k ≡ k'
    → state_at l d t p q m b k ≡ state_at l' d' t' p' q' m' b' k'
state-eq el ed et ep eq em eb ek = λ i. record { live = el i; documents = ed i; tokens = et i; priors = ep i; queries = eq i; merge = em i; limits = eb i; kind = ek i }

-- ---- a new desk

-- where nothing is open and nothing kept it is backed as its repository is
pub backed-new : (told : Option Files) (d : Keeps) → d.queries ≡ [] → d.counts ≡ [] → d.cache ≡ nothing_cached → IsBacked told d.repository → IfSome d.repository.merge (IsMergeBacked told d.repository) → IsDeskBacked told d
backed-new told d none zero empty stored merging =
    let s = d.repository in
    record {
      repository = stored;
      queries = subst (λ (qs : List OpenQuery). All (IsQueryBacked told s d.kind) qs) (sym none) (All-nil (IsQueryBacked told s d.kind));
      merge = merging;
      counts = empty-sums (live told s.held.parts) s.held.generation d.counts zero;
      cache = record {
        backed = new-cache told d.cache empty;
        listed = λ b there. (let w : Contains [] b = subst (λ (c : Cached). Contains c.kept b) empty there in absurd (let within = w.1 in omega (arith, within)));
      };
    }

-- ---- numbers that are listed stay listed

abbrev pub Lists : repositories.State → repositories.State → Type 0
Lists s t = (n : ℕ) → is_among n (listed_numbers s) ≡ true → is_among n (listed_numbers t) ≡ true

pub listed-on : (s t : repositories.State) (ns : List ℕ) → Lists s t → AreListed s ns → AreListed t ns
listed-on s t ns on listed = λ n e. on n (listed n e)

-- other parts with the same files are held
pub listed-held : (s : repositories.State) (h : Contents) → part_numbers h.parts.closed ≡ part_numbers s.held.parts.closed → Lists s (with_held s h)
listed-held s h same = λ n among. subst (λ ns. is_among n (ns ++ (s.stale ++ prior_numbers s.priors)) ≡ true) (sym same) among

-- ---- the open merge

-- its condition is that of the repository
pub merge-condition : (told : Option Files) (s : repositories.State) (m : Option Merging) → IfSome m (IsMergeBacked told s) → IfSome m (IsMerging told s)
merge-condition told s None backed = tt
merge-condition told s (Some m) backed = backed.merging

-- it stays backed by a repository that keeps its condition and lists as much
pub Merge-on : (told now : Option Files) (s t : repositories.State) (m : Option Merging) → Lists s t → IfSome m (IsMergeBacked told s) → IfSome m (IsMerging now t) → IfSome m (IsMergeBacked now t)
Merge-on told now s t None on backed condition = tt
Merge-on told now s t (Some m) on backed condition = record { merging = condition; listed = listed-on s t (part_numbers m.snapshot) on backed.listed }

-- so it is over a call that leaves the merge as it is
pub merge-kept : (a b : Option Files) (s t : repositories.State) → t.merge ≡ s.merge → Lists s t → IsOpenMerging b t → IfSome s.merge (IsMergeBacked a s) → IfSome t.merge (IsMergeBacked b t)
merge-kept a b s t same on now was =
    subst (λ (o : Option Merging). IfSome o (IsMergeBacked b t)) (sym same) (Merge-on a b s t s.merge on was (subst (λ (o : Option Merging). IfSome o (IsMerging b t)) same now))

-- ---- the files stay, and so do the priors

-- a query is backed by a repository that lists as much and has the same priors
pub Query-on : (told : Option Files) (s t : repositories.State) (kind : RuleKind) (q : OpenQuery) → Lists s t → t.priors ≡ s.priors → IsQueryBacked told s kind q → IsQueryBacked told t kind q
Query-on told s t kind q on same b = record {
  snapshot = b.snapshot;
  listed = listed-on s t (part_numbers q.search.snapshot) on b.listed;
  taken = rw same b.taken;
  network = b.network;
}

pub Queries-on : (told : Option Files) (s t : repositories.State) (kind : RuleKind) (qs : List OpenQuery) → Lists s t → t.priors ≡ s.priors → All (IsQueryBacked told s kind) qs → All (IsQueryBacked told t kind) qs
Queries-on told s t kind qs on same all = All-weaker (IsQueryBacked told s kind) (IsQueryBacked told t kind) (λ q b. Query-on told s t kind q on same b) qs all

pub Cache-on : (told : Option Files) (s t : repositories.State) (cache : Cached) → Lists s t → IsCacheKept told s cache → IsCacheKept told t cache
Cache-on told s t cache on b = record { backed = b.backed; listed = λ k c. on k.0.number (b.listed k c) }

-- ---- a commit

-- The files that are listed stay, and so do the priors with their rows.
pub Query-commit : (a b : Option Files) (s t : repositories.State) (kind : RuleKind) (q : OpenQuery) → IsBacked a s → SameWhere (IsBeside (IsUnlisted (listed_numbers s))) a b → Lists s t
    → priors_in b t.priors ≡ priors_in a s.priors → IsQueryBacked a s kind q → IsQueryBacked b t kind q
Query-commit a b s t kind q backed same on priors query =
    let P = IsBeside (IsUnlisted (listed_numbers s)) in
    let stay : Stay P (part_numbers q.search.snapshot) = λ j h. listed-stays a s backed j (query.listed j h) in
    record {
      snapshot = backed-same P a b same q.search.snapshot stay query.snapshot;
      listed = listed-on s t (part_numbers q.search.snapshot) on query.listed;
      taken = subst (λ ps. IsTaken kind (priors_with ps) b q.search) (sym priors) (taken-same P a b same kind (priors_with (priors_in a s.priors)) q.search stay query.taken);
      network = query.network ∙ ap (query_network (whole_checked q.search.checked)) (sym (live-same P a b same q.search.snapshot stay));
    }

-- and it reads as it did
pub query-same : (a b : Option Files) (s : repositories.State) (kind : RuleKind) (q : OpenQuery) → IsBacked a s → SameWhere (IsBeside (IsUnlisted (listed_numbers s))) a b → IsQueryBacked a s kind q → query_of b q ≡ query_of a q
query-same a b s kind q backed same query =
    let P = IsBeside (IsUnlisted (listed_numbers s)) in
    ap (λ (docs : List Document). record { name = q.name; live = docs; query = whole_checked q.search.checked; k = q.search.most; credit = q.search.at.credit })
    (live-same P a b same q.search.snapshot (λ j h. listed-stays a s backed j (query.listed j h)))

pub Queries-commit : (a b : Option Files) (s t : repositories.State) (kind : RuleKind) (qs : List OpenQuery) → IsBacked a s → SameWhere (IsBeside (IsUnlisted (listed_numbers s))) a b → Lists s t
    → priors_in b t.priors ≡ priors_in a s.priors → All (IsQueryBacked a s kind) qs → All (IsQueryBacked b t kind) qs
Queries-commit a b s t kind qs backed same on priors all =
    All-weaker (IsQueryBacked a s kind) (IsQueryBacked b t kind) (λ q query. Query-commit a b s t kind q backed same on priors query) qs all

pub queries-same : (a b : Option Files) (s : repositories.State) (kind : RuleKind) (qs : List OpenQuery) → IsBacked a s → SameWhere (IsBeside (IsUnlisted (listed_numbers s))) a b → All (IsQueryBacked a s kind) qs
    → map (query_of b) qs ≡ map (query_of a) qs
queries-same a b s kind [] backed same all = refl
queries-same a b s kind (q ∷ qs) backed same all = λ i.
    query-same a b s kind q backed same (All-head (IsQueryBacked a s kind) q qs all) i ∷ queries-same a b s kind qs backed same (All-tail (IsQueryBacked a s kind) q qs all) i

pub Cache-commit : (a b : Option Files) (s t : repositories.State) (cache : Cached) → IsBacked a s → SameWhere (IsBeside (IsUnlisted (listed_numbers s))) a b → Lists s t → IsCacheKept a s cache → IsCacheKept b t cache
Cache-commit a b s t cache backed same on kept = record {
  backed = cache-same (IsBeside (IsUnlisted (listed_numbers s))) a b cache same (λ e c. listed-stays a s backed e.0.number (kept.listed e c)) kept.backed;
  listed = λ e c. on e.0.number (kept.listed e c);
}
