-- Bytes are those of one block at most, whatever documents it is of.
use Rattle.std.proofs.Common.{◌≡◌, ◌<◌, ℕ, ◌+◌, ◌-◌, ◌*◌, ◌^◌, List, [], ◌∷◌, length, Bool, true, false, ltb, leb, ◌&&◌, Result, Ok, refl, sym, ap, subst, ◌∙◌, arith}
use Rattle.std.specs.Prelude.{replicate}
use Rattle.std.proofs.lemmas.Bool.{lt-ltb, ltb-true}
use Rattle.std.proofs.lemmas.List.{get_or-map, get_or-replicate, length-replicate}
use Rattle.ri_base.specs.Reading.{AllFit}
use Rattle.seg_codec.specs.Blocks.{block, tokens_of}
use Rattle.seg_codec.specs.Fits.{FitBlock, FitPlaces, FitsBlockEntry, FitsPlace}
use Rattle.seg_codec.specs.Spelling.{block_bytes}
use Rattle.seg_codec.specs.declared.blocks.BlockEntry.{BlockEntry}
use Rattle.seg_codec.specs.declared.documents.Entry.{Entry}
use Rattle.seg_codec.proofs.BlockLaws.{block_again}

both : (a b : Bool) → a && b ≡ true → (a ≡ true) × (b ≡ true)
both true true e = (refl, refl)
both true false e = absurd cc
both false b e = absurd cc

-- documents with which each block of a range fits
longest : Entry
longest = record { docno = []; tokens = 2 ^ 32; fields = [] }

any_docs : ℕ → List Entry
any_docs range = replicate (64 * range + 64) longest

any-length : (range : ℕ) → length (any_docs range) ≡ 64 * range + 64
unfolding any_docs
any-length range = length-replicate (64 * range + 64) longest

any-tokens : (range id : ℕ) → id < 64 * range + 64 → tokens_of (any_docs range) id ≡ 2 ^ 32
unfolding any_docs longest
any-tokens range id h =
    let n = 64 * range + 64 in
    let inside : id < length (replicate n longest) = omega (arith, h, length-replicate n longest) in
    get_or-map (λ (e : Entry). e.tokens) (replicate n longest) id longest 0 inside ∙ ap (λ (e : Entry). e.tokens) (get_or-replicate n id longest longest h)

wider-place : (tokens low p : ℕ) → FitsPlace tokens low p → FitsPlace (2 ^ 32) low p
wider-place tokens low p fit =
    let rule = both (leb low p) (ltb p tokens) fit.1 in
    let wide : ltb p (2 ^ 32) ≡ true = lt-ltb p (2 ^ 32) fit.0 in
    let low-is : leb low p ≡ true = rule.0 in
    (fit.0, rw (low-is, wide) refl)

wider-places : (tokens low : ℕ) (ps : List ℕ) → AllFit (FitsPlace tokens) (λ _ p. p + 1) low ps → AllFit (FitsPlace (2 ^ 32)) (λ _ p. p + 1) low ps
wider-places tokens low [] fit = tt
wider-places tokens low (p ∷ ps) fit = (wider-place tokens low p fit.0, wider-places tokens (p + 1) ps fit.1)

wider-entry : (docs : List Entry) (range low : ℕ) (e : BlockEntry) → FitsBlockEntry docs range low e → FitsBlockEntry (any_docs range) range low e
wider-entry docs range low e fit =
    let i = e.id - 64 * range in
    let whole : 64 * range + i ≡ e.id = fit.0.1 in
    let rule = both (ltb i 64 && ltb (64 * range + i) (length docs)) (leb low (64 * range + i)) fit.0.0 in
    let local = both (ltb i 64) (ltb (64 * range + i) (length docs)) rule.0 in
    let a : ltb i 64 ≡ true = local.0 in
    let near : i < 64 = ltb-true i 64 a in
    let b : ltb (64 * range + i) (length (any_docs range)) ≡ true = lt-ltb (64 * range + i) (length (any_docs range)) (omega (arith, near, any-length range)) in
    let c : leb low (64 * range + i) ≡ true = rule.1 in
    let tokens : tokens_of (any_docs range) e.id ≡ 2 ^ 32 = any-tokens range e.id (omega (arith, near, whole)) in
    let ps = fit.1.0 in (
      (rw (a, b, c) refl, whole),
      (
        subst (λ n. FitPlaces n e.positions) (sym tokens) (ps.0, (ps.1.0, wider-places (tokens_of docs e.id) 0 e.positions ps.1.1)),
        fit.1.1,
      ),
    )

wider-entries : (docs : List Entry) (range low : ℕ) (es : List BlockEntry) → AllFit (FitsBlockEntry docs range) (λ _ e. e.id + 1) low es → AllFit (FitsBlockEntry (any_docs range) range) (λ _ e. e.id + 1) low es
wider-entries docs range low [] fit = tt
wider-entries docs range low (e ∷ es) fit = (wider-entry docs range low e fit.0, wider-entries docs range (e.id + 1) es fit.1)

wider : (docs : List Entry) (range : ℕ) (es : List BlockEntry) → FitBlock docs range es → FitBlock (any_docs range) range es
wider docs range es fit = (fit.0, (fit.1.0, wider-entries docs range 0 es fit.1.1))

abbrev done : List BlockEntry → Result (List BlockEntry) ℕ
done x = Ok x

value-is : (x y : List BlockEntry) → done x ≡ done y → x ≡ y
value-is x y e = cc

pub same_block : (bytes : List ℕ) (range : ℕ) (xs ys : List BlockEntry) (docs others : List Entry) → bytes ≡ block_bytes range xs → FitBlock docs range xs → bytes ≡ block_bytes range ys → FitBlock others range ys → xs ≡ ys
same_block bytes range xs ys docs others x fit y fits =
    value-is xs ys
    (sym (block_again (any_docs range) range xs (wider docs range xs fit)) ∙ ap (block (any_docs range) range) (sym x ∙ y) ∙ block_again (any_docs range) range ys (wider others range ys fits))
