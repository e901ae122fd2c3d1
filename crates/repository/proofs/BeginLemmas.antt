-- A repository whose merge was opened just now.
use Rattle.std.proofs.Common.{◌≡◌, ℕ, List, [], Option, Some, IfSome, refl, ap, ◌∙◌}
use Rattle.disk_index.specs.Snapshots.{Marked}
use Rattle.holdings.specs.Contents.{Contents, all_closed}
use Rattle.holdings.specs.Parts.{sealed}
use Rattle.holdings.specs.declared.limits.Limits.{Limits}
use Rattle.merge_job.specs.Merge.{Merging}
use Rattle.store_ends.specs.Files.{Files}
use Rattle.repository.specs.Merges.{merge_begun, merge_of, with_merge}
use Rattle.repository.specs.Stands.{Collection}
use Rattle.repository.specs.States.{IsBacked, IsNumbered, ReadsAs, State}
use Rattle.repository.specs.Steps.{with_held}
use Rattle.repository.specs.Ties.{IsTied}
use Rattle.repository.proofs.KeepLemmas.{backed-merge}
use Rattle.repository.proofs.StepLemmas.{backed-closed, numbered-closed, reads-closed}
use Rattle.repository.proofs.TieLemmas.{begins-same}
use Rattle.repository.proofs.TurnLemmas.{reads-merge}

-- by what was held, the snapshot and the job
pub begun-is : (s : State) (limits : Limits) {h : Contents} {job : Merging} {l : List Marked} → h ≡ all_closed s.held → job ≡ record { snapshot = l; most = limits.part_docs; copied = [] } → l ≡ (sealed s.held.parts).closed → limits ≡ h.limits
    → record { held = h; next = s.next; stale = s.stale; priors = s.priors; merge = Some job; usable = s.usable } ≡ merge_begun s
begun-is s limits {h} {job} {l} closed job_is parts limits_are =
    let most_is : limits.part_docs ≡ s.held.limits.part_docs = ap (λ (x : Limits). x.part_docs) (limits_are ∙ ap (λ (x : Contents). x.limits) closed) in
    let made : job ≡ merge_of s =
    job_is ∙ ap (λ (x : List Marked). record { snapshot = x; most = limits.part_docs; copied = [] }) parts ∙ ap (λ (k : ℕ). record { snapshot = (sealed s.held.parts).closed; most = k; copied = [] }) most_is in
    ap (λ (x : Contents). with_merge (with_held s x) (Some job)) closed ∙ ap (λ (m : Merging). with_merge (with_held s (all_closed s.held)) (Some m)) made

pub numbered-merge : (s : State) (o : Option Merging) → IsNumbered s → IsNumbered (with_merge s o)
numbered-merge s o n = record { list = n.list; form = n.form; next_is = n.next_is; numbers_are = n.numbers_are; stale_are = n.stale_are; priors_are = n.priors_are; sized = n.sized }

pub numbered-begun : (s : State) → IsNumbered s → IsNumbered (merge_begun s)
numbered-begun s n = numbered-merge (with_held s (all_closed s.held)) (Some (merge_of s)) (numbered-closed s n)

pub tied-begun : (s : State) → IfSome (merge_begun s).merge (IsTied (merge_begun s).held)
tied-begun s = record { begins = begins-same (sealed s.held.parts).closed; most_is = refl }

pub reads-begun : (told : Option Files) (s : State) (c : Collection) → ReadsAs told s c → ReadsAs told (merge_begun s) c
reads-begun told s c reads = reads-merge told (with_held s (all_closed s.held)) (Some (merge_of s)) c (reads-closed told s c reads)

pub backed-begun : (told : Option Files) (s : State) → IsBacked told s → IsBacked told (merge_begun s)
backed-begun told s backed = backed-merge told (with_held s (all_closed s.held)) (Some (merge_of s)) (backed-closed told s backed)
