-- The end of a merge: what the numbers, the lists and the files are behind its commit.
use Rattle.std.proofs.Common.{◌≡◌, ◌≤◌, ◌<◌, ◌+◌, ◌-◌, ◌^◌, inl, inr, ℕ, Bool, true, false, List, [], ◌∷◌, ◌++◌, length, take, drop, get_or, Option, None, Some, IfSome, refl, ap, sym, subst, ◌∙◌, arith}
use Rattle.std.specs.List.{All, AllZip}
use Rattle.std.specs.Option.{option_map}
use Rattle.std.proofs.lemmas.Grind.{flat_map-append}
use Rattle.std.proofs.lemmas.Bool.{cases_eq}
use Rattle.std.proofs.lemmas.List.{append-nil, take_more}
use Rattle.ri_base.specs.Documents.{Document}
use Rattle.store_ends.specs.Files.{Files, SameWhere, with_file}
use Rattle.manifest.specs.Listing.{AreNumbered, AreRising, IsListing, listing, prior_numbers}
use Rattle.manifest.proofs.ListingLaws.{listing-of, manifest-of}
use Rattle.disk_index.specs.Snapshots.{Marked}
use Rattle.holdings.specs.Contents.{Contents, with_parts}
use Rattle.holdings.specs.MarkedParts.{IsWhole}
use Rattle.holdings.specs.Parts.{Parts, closed_by, sealed}
use Rattle.holdings.specs.declared.limits.Limits.{Limits}
use Rattle.holdings.proofs.RoomLemmas.{live-sealed}
use Rattle.holdings.proofs.SumLemmas.{documents-sealed, tokens-sealed}
use Rattle.merge_job.specs.Merge.{Merging}
use Rattle.repository.specs.Entries.{entries_for}
use Rattle.repository.specs.Merges.{IsExchange, IsMergeEnded, IsMerging, IsSameShape, IsTurnedOver, all_stale, dead_documents, dead_tokens, without_dead_of}
use Rattle.repository.specs.Names.{manifest_name}
use Rattle.repository.specs.Numbers.{is_among, next_behind}
use Rattle.repository.specs.Saved.{AllSaved, IsSaved, IsUnlisted, unsaved}
use Rattle.repository.specs.Stale.{with_stale}
use Rattle.repository.specs.Stands.{Collection, Stands}
use Rattle.repository.specs.States.{IsNumbered, IsSized, ReadsAs, State, kept_numbers, listed_numbers, numbers_in, part_numbers}
use Rattle.repository.specs.Ties.{Begins, IsTied}
use Rattle.repository.specs.Writes.{IsOther}
use Rattle.repository.specs.declared.turned.Turned.TheVariants.{Done}
use Rattle.repository.proofs.CommitLemmas.{AreFiled, AreFit, backed-now, documents-whole, filed, filling-by, intact-now, limits-now, listed_text, live-whole, reads-now, stands-now, state_of, tokens-whole, unlisted-clear}
use Rattle.repository.proofs.CountLemmas.{count, count-append, count-none, count-stale, counted-numbered, fewer-numbered, none-count}
use Rattle.repository.proofs.ExchangeLemmas.{backed-exchanged, documents-exchanged, drop-sealed, intact-exchanged, live-exchanged, numbers-exchanged, numbers-halves, sized-exchanged, tokens-exchanged}
use Rattle.repository.proofs.KeepLemmas.{alike-sealed, begins-numbers}
use Rattle.repository.proofs.ListedLemmas.{all-listed, listing-now, numbers-entries, stale-listed}
use Rattle.repository.proofs.NumberLemmas.{among-behind, among-either, among-left, below-next, clash, free-of, none-among, none-of, none-right, numbered-apart}
use Rattle.repository.proofs.SaveLemmas.{numbers-kept, numbers-sealed, sized-sealed, source-outlines}
use Rattle.repository.proofs.SetLemmas.{rising-short}
use Rattle.repository.proofs.StaleLemmas.{rising-stale}
use Rattle.repository.proofs.StepLemmas.{backed-closed, intact-closed}
use Rattle.repository.proofs.TieLemmas.{begins-length, tied-closed}

-- ---- numbers become stale

stale-append : (st xs ys : List ℕ) → all_stale st (xs ++ ys) ≡ all_stale (all_stale st xs) ys
stale-append st [] ys = refl
stale-append st (x ∷ xs) ys = stale-append (with_stale st x) xs ys

pub stale-part : (st : List ℕ) (ms : List Marked) (i : ℕ) (m : Marked) → i < length ms → m ≡ get_or ms i m
    → all_stale (all_stale st (part_numbers (take i ms))) (numbers_in m.source) ≡ all_stale st (part_numbers (take (i + 1) ms))
stale-part st ms i m within at =
    sym (stale-append st (part_numbers (take i ms)) (numbers_in m.source))
    ∙ ap (all_stale st) (ap (λ (l : List ℕ). part_numbers (take i ms) ++ l) (sym (append-nil (numbers_in m.source))) ∙ sym (flat_map-append (λ (x : Marked). numbers_in x.source) (take i ms) (m ∷ [])))
    ∙ ap (λ (x : Marked). all_stale st (part_numbers (take i ms ++ x ∷ []))) at ∙ sym (ap (λ (l : List Marked). all_stale st (part_numbers l)) (take_more ms i m within))

count-all_stale : (k : ℕ) (st ns : List ℕ) → count k (all_stale st ns) ≡ count k ns + count k st
count-all_stale k st [] = omega arith
count-all_stale k st (n ∷ ns) = (let rest = count-all_stale k (with_stale st n) ns in let here = count-stale k n st in omega (arith, rest, here))

-- numbers that are counted alike are alike
among-counted : (k : ℕ) (ms ns : List ℕ) → count k ms ≡ count k ns → is_among k ms ≡ is_among k ns
among-counted k ms ns same = by (is_among k ms) (is_among k ns) refl refl
  where
    none-too : (xs ys : List ℕ) → count k xs ≡ count k ys → is_among k xs ≡ false → is_among k ys ≡ false
    none-too xs ys e none = none-among k ys (count-none k ys (sym e ∙ none-count k xs (none-of k xs none)))

    by : (p q : Bool) → is_among k ms ≡ p → is_among k ns ≡ q → p ≡ q
    by true true a b = refl
    by false false a b = refl
    by true false a b = absurd (clash (is_among k ms) a (none-too ns ms (sym same) b))
    by false true a b = absurd (clash (is_among k ns) b (none-too ms ns same a))

rising-all : (next : ℕ) (st ns : List ℕ) → AreRising 0 st → AreNumbered next (ns ++ st) → AreRising 0 (all_stale st ns)
rising-all next st [] rise numbered = rise
rising-all next st (n ∷ ns) rise numbered =
    rising-all next (with_stale st n) ns (rising-stale 0 n st rise (omega arith) (none-right n ns st numbered.1.1.0))
    (fewer-numbered next (n ∷ (ns ++ st)) (ns ++ with_stale st n) (λ k. (let a = count-append k ns (with_stale st n) in let b = count-append k ns st in let d = count-stale k n st in omega (arith, a, b, d))) numbered)

some-among : (k : ℕ) (ns : List ℕ) → is_among k ns ≡ true → 1 ≤ count k ns
some-among k ns e = elim (cases_eq (count k ns) 0) [
  | inl zero ↦ absurd (clash (is_among k ns) e (none-among k ns (count-none k ns zero)))
  | inr some ↦ omega (arith, some)
]

among-some : (k : ℕ) (ns : List ℕ) → 1 ≤ count k ns → is_among k ns ≡ true
among-some k ns some = by (is_among k ns) refl
  where
    by : (b : Bool) → is_among k ns ≡ b → b ≡ true
    by true e = refl
    by false e = (let none = none-count k ns (none-of k ns e) in absurd (omega (arith, some, none)))

among-all_stale : (k : ℕ) (st ns : List ℕ) → is_among k ns ≡ true → is_among k (all_stale st ns) ≡ true
among-all_stale k st ns e = among-some k (all_stale st ns) (let some = some-among k ns e in let all = count-all_stale k st ns in omega (arith, some, all))

no-merge : (told : Option Files) (o : Option Merging) (t : State) → o ≡ None → IfSome o (IsMerging told t)
no-merge told o t none = subst (λ (x : Option Merging). IfSome x (IsMerging told t)) (sym none) tt

-- ---- parts are exchanged

begins-take : (ms ps : List Marked) → Begins ms ps → Begins ms (take (length ms) ps)
begins-take [] ps begins = tt
begins-take (m ∷ ms) [] begins = absurd begins
begins-take (m ∷ ms) (p ∷ ps) begins = (begins.0, begins-take ms ps begins.1)

none-by : (p : Parts) (docs : List Document) → docs ≡ [] → (closed_by p docs).closed ≡ p.closed
none-by p [] e = refl
none-by p (d ∷ docs) e = absurd cc

none-sealed : (p : Parts) → p.filling ≡ [] → (sealed p).closed ≡ p.closed
none-sealed p e = none-by p p.filling e

shapes-same : (told : Option Files) (taken : List ℕ) (ps qs : List Marked) → AllZip (IsSaved told taken) ps qs → AllZip IsSameShape ps qs
shapes-same told taken [] [] saved = tt
shapes-same told taken [] (q ∷ qs) saved = absurd saved
shapes-same told taken (p ∷ ps) [] saved = absurd saved
shapes-same told taken (p ∷ ps) (q ∷ qs) saved = ((saved.0.0, source-outlines told taken p.source q.source saved.0.1), shapes-same told taken ps qs saved.1)

shapes-saved : (told : Option Files) (taken : List ℕ) (ms ps qs : List Marked) → ms ≡ ps → AllZip (IsSaved told taken) ms qs → AllZip IsSameShape ps qs
shapes-saved told taken ms ps qs is saved = subst (λ (l : List Marked). AllZip IsSameShape l qs) is (shapes-same told taken ms qs saved)

-- what the state is then, before anything is written
abbrev pub state_exchanged : State → Contents → List ℕ → State
state_exchanged s h stale = record { held = h; next = s.next; stale = stale; priors = s.priors; merge = s.merge; usable = true }

module _ (s : State) (job : Merging) (h : Contents) (stale : List ℕ) (numbered : IsNumbered s) (tied : IsTied s.held job) (ex : IsExchange job (sealed s.held.parts).closed h.parts.closed)
    (held : h ≡ with_parts s.held h.parts.closed) (whole : All IsWhole (sealed s.held.parts).closed) (left : stale ≡ all_stale s.stale (part_numbers (take (length job.snapshot) s.held.parts.closed))) where
  abbrev n : ℕ
  n = length job.snapshot

  abbrev others : List ℕ
  others = stale ++ prior_numbers s.priors

  abbrev old : List Marked
  old = (sealed s.held.parts).closed

  within : n ≤ length s.held.parts.closed
  within = begins-length job.snapshot s.held.parts.closed tied.begins

  begins : Begins job.snapshot old
  begins = (tied-closed s.held job tied).begins

  numbers-now : part_numbers h.parts.closed ≡ part_numbers (drop n s.held.parts.closed)
  numbers-now = numbers-exchanged job old h.parts.closed ex begins whole ∙ drop-sealed n s.held.parts within

  -- the same numbers are listed
  counts : (k : ℕ) → count k (part_numbers h.parts.closed ++ others) ≡ count k (listed_numbers s)
  counts k =
      let first = part_numbers (take n s.held.parts.closed) in
      let later = part_numbers (drop n s.held.parts.closed) in
      let priors = prior_numbers s.priors in
      let a = count-append k (part_numbers h.parts.closed) others in
      let b = ap (count k) numbers-now in
      let c = count-append k stale priors in
      let d = ap (count k) left ∙ count-all_stale k s.stale first in
      let e = count-append k (part_numbers s.held.parts.closed) (s.stale ++ priors) in
      let f = ap (count k) (sym (numbers-halves n s.held.parts.closed)) ∙ count-append k first later in
      let g = count-append k s.stale priors in
      omega (arith, a, b, c, d, e, f, g)

  pub numbered-exchanged : AreNumbered s.next (part_numbers h.parts.closed ++ others)
  numbered-exchanged = counted-numbered s.next (listed_numbers s) (part_numbers h.parts.closed ++ others) counts (all-listed s numbered)

  pub among-exchanged : (k : ℕ) → is_among k (part_numbers h.parts.closed ++ others) ≡ is_among k (listed_numbers s)
  among-exchanged k = among-counted k (part_numbers h.parts.closed ++ others) (listed_numbers s) (counts k)

  sized-now : All IsSized h.parts.closed
  sized-now = sized-exchanged job old h.parts.closed ex begins whole (sized-sealed s.held.parts numbered.sized)

  rising-now : AreRising 0 stale
  rising-now =
      let first = part_numbers (take n s.held.parts.closed) in
      let rise = (stale-listed s numbered).1 in
      let fewer : AreNumbered s.next (first ++ s.stale) = fewer-numbered s.next (listed_numbers s) (first ++ s.stale)
      (λ k. (let priors = prior_numbers s.priors in
      let later = part_numbers (drop n s.held.parts.closed) in
      let a = count-append k first s.stale in
      let e = count-append k (part_numbers s.held.parts.closed) (s.stale ++ priors) in
      let f = ap (count k) (sym (numbers-halves n s.held.parts.closed)) ∙ count-append k first later in
      let g = count-append k s.stale priors in
      omega (arith, a, e, f, g))) (all-listed s numbered) in
      subst (AreRising 0) (sym left) (rising-all s.next s.stale first rise fewer)

  few-now : length stale < 2 ^ 64
  few-now =
      let fits = (listing-of numbered.list numbered.form).next_fits in
      let short = rising-short 0 s.next stale (omega arith) rising-now
      (λ k e. below-next s.next (part_numbers h.parts.closed ++ others) numbered-exchanged k (among-behind k (part_numbers h.parts.closed) others (among-left k stale (prior_numbers s.priors) e))) in
      omega (arith, short, fits, numbered.next_is)

  -- ---- the files

  module _ (a : Option Files) (merging : IsMerging a s job) where
    filed-now : AreFiled a (state_exchanged s h stale)
    filed-now =
        let before = filed a s merging.backed in
        record {
          files = before.files;
          is_told = before.is_told;
          parts = backed-exchanged job old h.parts.closed ex begins whole a (backed-closed a s merging.backed).parts;
          parts_within = λ j e. (
            among-left j (part_numbers h.parts.closed) (prior_numbers s.priors) e,
            (before.parts_within j (ap (is_among j) (sym (numbers-halves n s.held.parts.closed))
                ∙ among-behind j (part_numbers (take n s.held.parts.closed)) (part_numbers (drop n s.held.parts.closed)) (ap (is_among j) (sym numbers-now) ∙ e))).1,
          );
          priors = before.priors;
          priors_within = λ j e. (among-behind j (part_numbers h.parts.closed) (prior_numbers s.priors) e, (before.priors_within j e).1);
        }

    filling : h.parts.filling ≡ []
    filling = ap (λ (x : Contents). x.parts.filling) held

    sealed-none : (sealed s.held.parts).filling ≡ []
    sealed-none = filling-by s.held.parts s.held.parts.filling refl

    reads-now-exchanged : (d : Collection) → ReadsAs a s d → ReadsAs a (state_exchanged s h stale) (without_dead_of (Some job) d)
    reads-now-exchanged d read = record {
      live_are = live-whole a h.parts filling ∙ live-exchanged job old h.parts.closed ex begins whole a (alike-sealed a job.snapshot s.held.parts merging.alike) merging.taken
          ∙ sym (live-whole a (sealed s.held.parts) sealed-none) ∙ live-sealed a s.held.parts ∙ read.live_are;
      documents_are = documents-whole h.parts filling ∙ documents-exchanged job old h.parts.closed ex begins whole
          ∙ ap (λ (k : ℕ). k - dead_documents job.snapshot) (sym (documents-whole (sealed s.held.parts) sealed-none) ∙ documents-sealed s.held.parts ∙ read.documents_are);
      tokens_are = tokens-whole h.parts filling ∙ tokens-exchanged job old h.parts.closed ex begins whole
          ∙ ap (λ (k : ℕ). k - dead_tokens job.snapshot) (sym (tokens-whole (sealed s.held.parts) sealed-none) ∙ tokens-sealed s.held.parts ∙ read.tokens_are);
      priors_are = read.priors_are;
    }

  -- ---- all is saved and listed

  module _ (a b : Option Files) (k : Contents) (after : ℕ) (same : SameWhere (IsOther (IsUnlisted (listed_numbers s))) a b) (saved : AllSaved b others s.next after h k) (fit : AreFit k) where
    pub end-form : IsListing after (entries_for k.parts.closed) stale s.priors
    end-form = listing-now s after k.parts.closed stale numbered saved.rises saved.fits saved.on_disk (saved.sized sized-now) fit.whole fit.few few-now rising-now saved.numbered

    pub end-numbered : IsNumbered (state_of (state_exchanged s h stale) k after stale)
    end-numbered = record {
      list = listing after (entries_for k.parts.closed) stale s.priors;
      form = manifest-of after (entries_for k.parts.closed) stale s.priors end-form;
      next_is = refl;
      numbers_are = numbers-entries k.parts.closed saved.on_disk;
      stale_are = refl;
      priors_are = refl;
      sized = saved.sized sized-now;
    }

    clear-now : (j : ℕ) → IsUnlisted (listed_numbers s) j → is_among j (kept_numbers (state_exchanged s h stale)) ≡ false
    clear-now j free = unlisted-clear (state_exchanged s h stale) j (among-exchanged j ∙ free)

    limits-kept : (c : Option Files) → c ≡ option_map (with_file manifest_name (Some (listed_text k after stale s.priors))) b → k.limits ≡ s.held.limits
    limits-kept c put = limits-now a b c (state_exchanged s h stale) k after stale others (IsUnlisted (listed_numbers s)) clear-now same saved end-form fit put ∙ ap (λ (x : Contents). x.limits) held

    -- the files stand for what it reads as
    pub end-stands : (c : Option Files) → c ≡ option_map (with_file manifest_name (Some (listed_text k after stale s.priors))) b → IsMerging a s job → (d : Collection) → ReadsAs a s d → Stands s.held.limits c (without_dead_of (Some job) d)
    end-stands c put merging d read =
        subst (λ (l : Limits). Stands l c (without_dead_of (Some job) d)) (limits-kept c put)
        (stands-now a b c (state_exchanged s h stale) k after stale others (IsUnlisted (listed_numbers s)) clear-now same saved end-form fit put (filed-now a merging) (without_dead_of (Some job) d) (reads-now-exchanged a merging d read))

    pub end-over : (c : Option Files) → s.merge ≡ None → c ≡ option_map (with_file manifest_name (Some (listed_text k after stale s.priors))) b → IsMerging a s job
        → IsTurnedOver Done (Some job) a c s (state_of (state_exchanged s h stale) k after stale)
    end-over c none put merging = record {
      reads = λ d read. reads-now a b c (state_exchanged s h stale) k after stale others (IsUnlisted (listed_numbers s)) clear-now same saved end-form fit put (filed-now a merging) (without_dead_of (Some job) d) (reads-now-exchanged a merging d read);
      backed = backed-now a b c (state_exchanged s h stale) k after stale others (IsUnlisted (listed_numbers s)) clear-now same saved end-form fit put (filed-now a merging);
      merging = no-merge c s.merge (state_of (state_exchanged s h stale) k after stale) none;
      intact = λ intact.
          intact-now a b c (state_exchanged s h stale) k after stale others (IsUnlisted (listed_numbers s)) clear-now same saved end-form fit put (filed-now a merging)
          (intact-exchanged job old h.parts.closed ex begins whole a (intact-closed a s intact));
      stands = λ _ d read. end-stands c put merging d read;
    }

    pub end-state : s.merge ≡ None → IsMergeEnded job s (state_of (state_exchanged s h stale) k after stale)
    end-state none = record {
      made = h.parts.closed;
      exchange = ex;
      parts = shapes-saved b saved.taken (sealed h.parts).closed h.parts.closed k.parts.closed (none-sealed h.parts (filling-none held)) saved.parts;
      closed = none;
      on_disk = saved.on_disk;
      none_filling = ap (λ (x : Contents). x.parts.filling) saved.rest ∙ filling-by h.parts h.parts.filling refl;
      in_turn = saved.in_turn ∙ ap (λ (ms : List Marked). next_behind s.next (unsaved ms)) (none-sealed h.parts (filling-none held));
      stale = left;
      unlisted = λ j e. numbered-unlisted j e;
      listed = λ j e. listed-still j e;
      limits = ap (λ (x : Contents). x.limits) saved.rest ∙ ap (λ (x : Contents). x.limits) held;
      generation = ap (λ (x : Contents). x.generation) saved.rest ∙ ap (λ (x : Contents). x.generation) held;
      priors = refl;
    }
      where
        filling-none : h ≡ with_parts s.held h.parts.closed → h.parts.filling ≡ []
        filling-none e = ap (λ (x : Contents). x.parts.filling) e

        listed-still : (j : ℕ) → is_among j (listed_numbers s) ≡ true → is_among j (part_numbers k.parts.closed ++ others) ≡ true
        listed-still j e = elim (among-either j (part_numbers h.parts.closed) others (among-exchanged j ∙ e)) [
          | inl part ↦ among-left j (part_numbers k.parts.closed) others
              (numbers-kept b saved.taken (sealed h.parts).closed k.parts.closed saved.parts j (ap (is_among j) (numbers-sealed h.parts) ∙ part))
          | inr other ↦ among-behind j (part_numbers k.parts.closed) others other
        ]

        numbered-unlisted : (j : ℕ) → is_among j (part_numbers job.snapshot) ≡ true → is_among j (part_numbers k.parts.closed) ≡ false
        numbered-unlisted j e =
            let first = part_numbers (take n s.held.parts.closed) in
            let among : is_among j first ≡ true = begins-numbers job.snapshot (take n s.held.parts.closed) j (begins-take job.snapshot s.held.parts.closed tied.begins) e in
            let gone : is_among j stale ≡ true = ap (is_among j) left ∙ among-all_stale j s.stale first among in
            free-of (is_among j (part_numbers k.parts.closed)) (λ there. clash (is_among j others) (among-left j stale (prior_numbers s.priors) gone) (numbered-apart after (part_numbers k.parts.closed) others saved.numbered j there))
