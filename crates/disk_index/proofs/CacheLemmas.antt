-- What the cache of blocks keeps after a call.
use Rattle.std.proofs.Common.{◌≡◌, ℕ, Bool, true, ◌⊎◌, inl, inr, List, [], Contains, Option, Some, None, Result, Ok, Err, OnOk, OnErr, IfOk, IfSome, refl, sym, ap, subst, ◌∙◌, arith}
use Rattle.ri_base.specs.Faults.{IsOutside, TellsDamage}
use Rattle.ri_base.specs.declared.seg_fault.SegFault.{SegFault}
use Rattle.ri_base.specs.declared.seg_fault.SegFault.TheVariants.{Malformed, Memory, Missing, Store}
use Rattle.store_ends.specs.Files.{Files}
use Rattle.seg_codec.specs.Fits.{FitBlock}
use Rattle.seg_codec.specs.declared.blocks.BlockEntry.{BlockEntry}
use Rattle.seg_codec.specs.declared.documents.Entry.{Entry}
use Rattle.disk_index.specs.Blocks.{IsBlockIn}
use Rattle.disk_index.specs.Cache.{AllKept, CacheKeeps, Cached, IsBlockOf, IsCacheBacked, KeptBlock, nothing_cached}
use Rattle.disk_index.specs.Faults.{CameFrom}
use Rattle.disk_index.specs.Kept.{Kept}
use Rattle.disk_index.specs.declared.cache.BlockKey.{BlockKey}
use Rattle.lru.specs.LruCache.{LruCache, lru_cache, promoted, put_entries}
use Rattle.lru.proofs.CallerLemmas.{Contains-promoted, Contains-put_entries}

-- what isn't damage leaves what was met last
pub outside-damage : (damage : Option SegFault) (fault : SegFault) → IsOutside fault → TellsDamage damage damage fault
outside-damage damage (Malformed file part place) outside = absurd outside
outside-damage damage (Missing file) outside = absurd outside
outside-damage damage Store outside = refl
outside-damage damage Memory outside = refl

-- a cache of no block is backed by any files
pub empty-cache : (told : Option Files) (c : Cached) → c.kept ≡ [] → IsCacheBacked told c
empty-cache told c none = λ files is e there.
    let inside : Contains [] e = subst (λ (es : List KeptBlock). Contains es e) none there in
    absurd (let within = inside.1 in omega (arith, within))

pub new-cache : (told : Option Files) (c : Cached) → c ≡ nothing_cached → IsCacheBacked told c
new-cache told c none = empty-cache told c (ap (λ (x : Cached). x.kept) none)

pub ok_some : {X E : Type 0} (r : Result (Option X) E) (x : X) (P : X → Type 0) → IfOk r (λ o. o ≡ Some x) → P x → IfOk r (λ o. IfSome o P)
ok_some (Ok (Some y)) x P is here = let same : y ≡ x = cc in subst P (sym same) here
ok_some (Ok None) x P is here = absurd cc
ok_some (Err e) x P is here = tt

pub after_get : {K V : Type 0} (test : K → Bool) (es : List (K × V)) (cap : ℕ) (d : LruCache K V) → d ≡ lru_cache (promoted test es) cap → (e : K × V) → Contains d.entries e → Contains es e
after_get {K} {V} test es cap d is e h = Contains-promoted test es e (subst (λ (t : LruCache K V). Contains t.entries e) is h)

pub after_put : {K V T E : Type 0} {eq : K → K → Bool} (r : Result T E) (d n : LruCache K V) (k : K) (v : V)
    → OnOk r (n ≡ lru_cache (put_entries eq d k v) d.cap) → OnErr r (n ≡ d) → ((a b : K) → eq a b ≡ true → a ≡ b) → (e : K × V) → Contains n.entries e → Contains d.entries e ⊎ (e ≡ (k, v))
after_put {K} {V} {T} {E} {eq} (Ok y) d n k v ok err exact e h = go (Contains-put_entries eq d k v e (subst (λ (t : LruCache K V). Contains t.entries e) ok h))
  where
    key : ((e.0 ≡ k) ⊎ ((w : V) × Contains d.entries (e.0, w) × (eq k e.0 ≡ true))) → e.0 ≡ k
    key (inl same) = same
    key (inr q) = sym (exact k e.0 q.2)

    go : Contains d.entries e ⊎ ((e.1 ≡ v) × ((e.0 ≡ k) ⊎ ((w : V) × Contains d.entries (e.0, w) × (eq k e.0 ≡ true)))) → Contains d.entries e ⊎ (e ≡ (k, v))
    go (inl was) = inl was
    go (inr p) = inr (ap (λ (a : K). (a, e.1)) (key p.1) ∙ ap (λ (b : V). (k, b)) p.0)
after_put {K} {V} (Err y) d n k v ok err exact e h = inl (subst (λ (t : LruCache K V). Contains t.entries e) err h)

-- keys of which each part is the same are the same
pub key_is : (a b : BlockKey) → a.number ≡ b.number → a.range ≡ b.range → a.place ≡ b.place → a.length ≡ b.length → a ≡ b
key_is a b p q r s =
    ap (λ n. record { number = n; range = a.range; place = a.place; length = a.length }) p ∙ ap (λ n. record { number = b.number; range = n; place = a.place; length = a.length }) q
    ∙ ap (λ n. record { number = b.number; range = b.range; place = n; length = a.length }) r ∙ ap (λ n. record { number = b.number; range = b.range; place = b.place; length = n }) s

pub fetched : (told : Option Files) (key : BlockKey) (docs : List Entry) (now mid new : Cached) (block stored : List BlockEntry) → AllKept now mid
    → ((e : KeptBlock) → Contains new.kept e → Contains mid.kept e ⊎ (e ≡ (key, stored))) → stored ≡ block → FitBlock docs key.range block → ((files : Files) → told ≡ Some files → IsBlockIn files key block)
    → CacheKeeps told (λ e. (e.0 ≡ key) × FitBlock docs e.0.range e.1) now new
fetched told key docs now mid new block stored stay put same fits right = record {
  each = λ e h. elim (put e h) [
    | inl was ↦ inl (stay e was)
    | inr is ↦ inr (
      (ap (λ (x : KeptBlock). x.0) is, subst (λ (x : KeptBlock). FitBlock docs x.0.range x.1) (sym is) (subst (λ (b : List BlockEntry). FitBlock docs key.range b) (sym same) fits)),
      λ files is_told.
          subst (λ (x : KeptBlock). IsBlockIn files x.0 x.1) (sym is) (subst (λ (b : List BlockEntry). IsBlockIn files key b) (sym same) (right files is_told)),
    )
  ];
}

-- a block of the documents of a part, under a key of its file
pub CacheKeeps-block : (told : Option Files) (key : BlockKey) (kept : Kept) (docs : List Entry) (c d : Cached) → key.number ≡ kept.number → docs ≡ kept.outlines
    → CacheKeeps told (λ e. (e.0 ≡ key) × FitBlock docs e.0.range e.1) c d → CacheKeeps told (IsBlockOf kept) c d
CacheKeeps-block told key kept docs c d same outlines keeps = record {
  each = λ e h. elim (keeps.each e h) [
    | inl was ↦ inl was
    | inr new ↦ inr ((ap (λ (k : BlockKey). k.number) new.0.0 ∙ same, subst (λ (os : List Entry). FitBlock os e.0.range e.1) outlines new.0.1), new.1)
  ];
}

-- a block that was read came from its file
pub came-read : {E : Type 0} (told : Option Files) (kept : Cached) (docs : List Entry) (key : BlockKey) (r : Result (List BlockEntry) E) → IfOk r (FitBlock docs key.range) → ((f : Files) → told ≡ Some f → IfOk r (IsBlockIn f key))
    → IfOk r (CameFrom told kept docs key)
came-read told kept docs key (Ok es) fits exact = inr (record { fit = fits; bytes = λ f is. (exact f is).bytes })
came-read told kept docs key (Err e) fits exact = tt
