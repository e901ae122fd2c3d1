use Rattle.std.proofs.Common.{◌≡◌, ◌∙◌, ◌≤◌, ◌<◌, ◌+◌, ◌++◌, ◌↔◌, None, ap, sym, subst, arith, List, Option, length, ℕ, false, eqb, take}
use Rattle.std.proofs.lemmas.Result.{err_from_is_err_and}
use Rattle.ri_base.specs.Collection.{token_count}
use Rattle.ri_base.specs.declared.limits.TheConstants.{MAX_HELD_TOKENS}
use Rattle.store_ends.specs.Files.{Files}
use Rattle.disk_index.specs.Cache.{IsCacheBacked}
use Rattle.disk_index.specs.Parts.{reads}
use Rattle.disk_index.specs.Snapshots.{AreBacked, AreIntact, IsFileAmong, Marked, live}
use Rattle.merge_job.specs.Merge.{AreTaken, Merging, size_of}
use Rattle.merge_job.specs.Walk.{entries, rest, tokens_of}
use Rattle.merge_job.proofs.JobLemmas.{job-lengths, job-tokens, taken-on}
use Rattle.merge_job.proofs.KeepLemmas.{all-kept}
use Rattle.merge_job.proofs.job.MergeJob.turn.Given as given
use Rattle.merge_job.proofs.job.MergeJob.turn.Goals as goal
use Rattle.merge_job.proofs.job.MergeJob.turn.Goals.{After-copy}

pub overflow_sub-self-inside : goal.overflow_sub-self-inside
overflow_sub-self-inside g c =
    let n = job-lengths _ _ _ _ c.self.invariant in
    omega (arith, n, c.len-count.ensures)

pub copy-requires-clause-enough : goal.copy-requires-clause-enough
copy-requires-clause-enough g c =
    let s = c.self.inside in
    let n = job-lengths _ _ _ _ c.self.invariant in
    let p = ap (λ (l : List Marked). length (rest entries l s.place.part s.place.id)) c.parts.ensures.parts in
    omega (arith, n, p, c.len-count.ensures, c.min.ensures)

pub copy-requires-clause-tokens : goal.copy-requires-clause-tokens
copy-requires-clause-tokens g c =
    let s = c.self.inside in
    subst (λ (l : List Marked). token_count s.copied.docs + tokens_of (rest entries l s.place.part s.place.id) ≤ MAX_HELD_TOKENS) (sym c.parts.ensures.parts) (job-tokens _ _ _ _ c.parts.ensures.bounds c.self.invariant)

reached : (n k goal size : ℕ) → n ≡ goal → k ≡ size → goal ≤ size → (eqb goal size ≡ false) ↔ (n < k)
reached n k goal size a b c = ((λ e. grind arith), (λ l. grind arith))

pub returns-clause-all : goal.returns-clause-all
returns-clause-all g c =
    let n = job-lengths _ _ _ _ c.self.invariant in
    reached _ _ _ _ c.in_ok-copy.ensures.done (sym (c.self.invariant.sized None)) (omega (arith, n, c.len-count.ensures, c.min.ensures))

pub returns-clause-copied : goal.returns-clause-copied
returns-clause-copied g c =
    let n = job-lengths _ _ _ _ c.self.invariant in
    let s = c.self.invariant.sized None in
    let v = ap (λ (j : Merging). length j.copied) c.self.view_is in
    let w = ap size_of c.self.view_is in
    omega (arith, n, s, v, w, c.len-count.ensures, c.min.ensures, c.in_ok-copy.ensures.done)

under : (g : given.Over) (c : After-copy g) → AreBacked (g.T.Store.files c.args.store.now) c.args.self.now.snapshot → AreBacked (g.T.Store.files c.args.store.now) c.parts.result.now
under g c backed = subst (λ (l : List Marked). AreBacked (g.T.Store.files c.args.store.now) l) (sym (c.parts.ensures.parts ∙ ap (λ (j : Merging). j.snapshot) c.self.view_is)) backed

taken-now : (g : given.Over) (c : After-copy g) → AreBacked (g.T.Store.files c.args.store.now) c.args.self.now.snapshot → IsCacheBacked (g.T.Store.files c.args.store.now) c.args.cache.now → AreTaken (g.T.Store.files c.args.store.now) c.args.self.now
    → c.copy.new.copied.docs ≡ take (length c.copy.new.copied.docs) (live (g.T.Store.files c.copy.new.store) c.self.inside.snapshot)
taken-now g c backed cached taken =
    let s = c.self.inside in
    let told = g.T.Store.files c.args.store.now in
    let inside : AreTaken told (record { snapshot = s.snapshot; most = s.copied.most; copied = s.copied.docs }) = subst (λ (j : Merging). AreTaken told j) (sym c.self.view_is) taken in
    let e = subst (λ (l : List Marked). c.copy.new.copied.docs ++ rest (reads told) l c.copy.new.place.part c.copy.new.place.id ≡ s.copied.docs ++ rest (reads told) l s.place.part s.place.id) c.parts.ensures.parts
    (c.copy.ensures.exact (under g c backed) cached) in
    let n = job-lengths _ _ _ _ c.self.invariant in
    subst (λ (f : Option Files). c.copy.new.copied.docs ≡ take (length c.copy.new.copied.docs) (live f s.snapshot)) (sym c.copy.ensures.quiet.same_files)
    (taken-on told s.snapshot s.place.part s.place.id c.copy.new.place.part c.copy.new.place.id s.copied.docs c.copy.new.copied.docs (n ∙ c.self.invariant.sized told) inside e)

pub returns-in_err-copy-clause-taken : goal.returns-in_err-copy-clause-taken
returns-in_err-copy-clause-taken g c = taken-now g (goal.at.returns-in_err-copy-clause-taken g c).After-copy

pub returns-clause-taken : goal.returns-clause-taken
returns-clause-taken g c = taken-now g (goal.at.returns-clause-taken g c).After-copy

pub returns-in_err-copy-clause-honest : goal.returns-in_err-copy-clause-honest
returns-in_err-copy-clause-honest g c = λ intact cached.
    let p = err_from_is_err_and c.from_residual.result c.from_residual.ensures.1 in
    let told = g.T.Store.files c.args.store.now in
    rw (p.1, p.2) (c.in_err-copy.ensures.honest (subst (AreIntact told) (sym (c.parts.ensures.parts ∙ ap (λ (j : Merging). j.snapshot) c.self.view_is)) intact) cached)

pub returns-in_err-copy-clause-cache : goal.returns-in_err-copy-clause-cache
returns-in_err-copy-clause-cache g c = all-kept (g.T.Store.files c.args.store.now) (IsFileAmong c.args.self.now.snapshot) c.args.cache.now c.copy.new.cache c.copy.ensures.cache

pub returns-clause-cache : goal.returns-clause-cache
returns-clause-cache g c = all-kept (g.T.Store.files c.args.store.now) (IsFileAmong c.args.self.now.snapshot) c.args.cache.now c.copy.new.cache c.copy.ensures.cache
