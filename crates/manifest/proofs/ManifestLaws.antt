-- a manifest: one spelling
use Rattle.std.proofs.Common.{arith, ◌≡◌, ℕ, ◌^◌, ◌<◌, nat_le, true, List, [], ◌++◌, length, Result, Ok, Err, refl, sym, ap, subst, ◌∙◌}
use Rattle.std.specs.Prelude.{◌==◌, IfOk}
use Rattle.std.specs.Bool.{nat_eq}
use Rattle.std.specs.Cmp.Lexicographic.{pointwise, same_text}
use Rattle.std.specs.Int.{w32, w64, to_le_bytes}
use Rattle.std.proofs.lemmas.Bool.{eqb-true}
use Rattle.ri_base.specs.declared.seg_fault.FileName.{FileName}
use Rattle.ri_base.specs.declared.seg_fault.PartName.{PartName}
use Rattle.ri_base.specs.declared.seg_fault.SegFault.{SegFault}
use Rattle.ri_base.specs.FieldAnswers.{AnswersPart}
use Rattle.ri_base.specs.Fields.{ruled, ruled_front}
use Rattle.ri_base.specs.Reading.{◌>>=◌}
use Rattle.ri_base.proofs.Codec.{IsBytes, IsCodec, codec_then, codec_as, front_codec, ruled_codec, whole_takes, whole_again, wide32, wide64}
use Rattle.manifest.specs.Entries.{priors, segments, stale, with_numbers}
use Rattle.manifest.specs.Files.{Lists, lists, magic, manifest, manifest_fields, numbers_of, opening}
use Rattle.manifest.specs.Fits.{FitLists, FitPriors, FitSegments, FitStale, FitsOpening, IsManifest}
use Rattle.manifest.specs.Spelling.{manifest_text, spelled_opening, spelled_priors, spelled_segments, spelled_stale}
use Rattle.manifest.specs.declared.manifest.Manifest.{Manifest}
use Rattle.manifest.proofs.EntryLaws.{priors_codec, segments_codec, stale_codec}

abbrev FitsHead : ℕ → Type 0
FitsHead n = ((length magic ≡ 8) × (pointwise nat_eq magic magic ≡ true)) × (((1 < 2 ^ 32) × (1 == 1 ≡ true)) × FitsOpening n)

opening_codec : IsCodec opening spelled_opening FitsHead
unfolding opening
opening_codec =
    codec_then (ruled_front 8 (λ x. pointwise nat_eq x magic)) (λ m. m) (λ m. (length m ≡ 8) × (pointwise nat_eq m magic ≡ true))
    (λ m bytes. ruled w32 (λ n. n == 1) bytes >>= λ v. ruled w64 (λ n. nat_le 1 n) v.1)
    (λ m n. to_le_bytes w32 1 ++ to_le_bytes w64 n)
    (λ m n. ((1 < 2 ^ 32) × (1 == 1 ≡ true)) × FitsOpening n)
    (λ n. magic)
    (front_codec 8 (λ m. pointwise nat_eq m magic))
    (λ m _. codec_then (ruled w32 (λ n. n == 1)) (to_le_bytes w32) (λ v. (v < 2 ^ 32) × (v == 1 ≡ true))
    (λ v bytes. ruled w64 (λ n. nat_le 1 n) bytes)
    (λ v n. to_le_bytes w64 n)
    (λ v n. FitsOpening n)
    (λ n. 1)
    (ruled_codec w32 (2 ^ 32) (λ n. n == 1) wide32)
    (λ v _. ruled_codec w64 (2 ^ 64) (λ n. nat_le 1 n) wide64)
    (λ v n h _. sym (eqb-true v 1 h.1)))
    (λ m n h _. sym (same_text m magic (sym h.1)))

abbrev spelled_lists : Lists → List ℕ
spelled_lists x = spelled_segments x.0 ++ (spelled_stale x.1 ++ spelled_priors x.2)

lists_codec : (next : ℕ) → IsCodec (lists next) spelled_lists (FitLists next)
unfolding lists
lists_codec next =
    codec_then {C = Lists} (segments next) spelled_segments (FitSegments next)
    (λ es bytes. stale next (with_numbers [] (numbers_of es)) bytes >>= λ ss. priors next (with_numbers (with_numbers [] (numbers_of es)) ss.0) ss.1 >>= λ ps. Ok ((es, ss.0, ps.0), ps.1))
    (λ es x. spelled_stale x.1 ++ spelled_priors x.2)
    (λ es x. FitStale next (with_numbers [] (numbers_of es)) x.1 × (FitPriors next (with_numbers (with_numbers [] (numbers_of es)) x.1) x.2 × ((es, x.1, x.2) ≡ x)))
    (λ x. x.0)
    (segments_codec next)
    (λ es _. codec_then {C = Lists} (stale next (with_numbers [] (numbers_of es))) spelled_stale (FitStale next (with_numbers [] (numbers_of es)))
    (λ ss bytes. priors next (with_numbers (with_numbers [] (numbers_of es)) ss) bytes >>= λ ps. Ok ((es, ss, ps.0), ps.1))
    (λ ss x. spelled_priors x.2)
    (λ ss x. FitPriors next (with_numbers (with_numbers [] (numbers_of es)) ss) x.2 × ((es, ss, x.2) ≡ x))
    (λ x. x.1)
    (stale_codec next (with_numbers [] (numbers_of es)))
    (λ ss _. codec_as (priors next (with_numbers (with_numbers [] (numbers_of es)) ss)) spelled_priors (FitPriors next (with_numbers (with_numbers [] (numbers_of es)) ss)) (λ ps. (es, ss, ps)) (λ x. x.2) (priors_codec next (with_numbers (with_numbers [] (numbers_of es)) ss)) (λ ps h. refl))
    (λ ss x _ h. sym (ap (λ (y : Lists). y.1) h.1)))
    (λ es x _ h. sym (ap (λ (y : Lists). y.0) h.1.1))

abbrev made : ℕ → Lists → Manifest
made next x = record { version = 1; next = next; segments = x.0; stale = x.1; priors = x.2 }

abbrev lists_of : Manifest → Lists
lists_of m = (m.segments, m.stale, m.priors)

abbrev FitsFields : Manifest → Type 0
FitsFields m = FitsHead m.next × (FitLists m.next (lists_of m) × (made m.next (lists_of m) ≡ m))

manifest_codec : IsCodec manifest_fields manifest_text FitsFields
unfolding manifest_fields
manifest_codec =
    codec_then opening spelled_opening FitsHead
    (λ n bytes. lists n bytes >>= λ x. Ok (made n x.0, x.1))
    (λ n m. spelled_lists (lists_of m))
    (λ n m. FitLists n (lists_of m) × (made n (lists_of m) ≡ m))
    (λ m. m.next)
    opening_codec
    (λ n _. codec_as (lists n) spelled_lists (FitLists n) (made n) lists_of (lists_codec n) (λ x h. refl))
    (λ n m _ h. sym (ap (λ (x : Manifest). x.next) h.1))

pub manifest_takes : (bytes : List ℕ) (m : Manifest) → IsBytes bytes → manifest bytes ≡ Ok m → (bytes ≡ manifest_text m) × IsManifest m
manifest_takes bytes m small e =
    let w = whole_takes manifest_fields manifest_text FitsFields (λ _. true) (λ m. m) manifest_codec bytes m small e in
    let fit : FitsFields m = subst FitsFields w.is w.fit in
    (w.spelled ∙ ap manifest_text w.is, (fit.0.1.1, fit.1))

pub manifest_again : (m : Manifest) → IsManifest m → manifest (manifest_text m) ≡ Ok m
manifest_again m fit =
    whole_again manifest_fields manifest_text FitsFields (λ _. true) (λ m. m) manifest_codec m (((refl, refl), ((omega arith, refl), fit.0)), fit.1) refl

pub manifest_found : (bytes : List ℕ) (file : FileName) (part : PartName) (end : ℕ) (r : Result Manifest SegFault) → IsBytes bytes
    → AnswersPart (λ m. m) r (manifest bytes) file part end → IfOk r (λ m. (bytes ≡ manifest_text m) × IsManifest m)
manifest_found bytes file part end (Ok m) small h = manifest_takes bytes m small h
manifest_found bytes file part end (Err e) small h = tt

pub manifest_only : (bytes : List ℕ) (file : FileName) (part : PartName) (end : ℕ) (r : Result Manifest SegFault)
    → AnswersPart (λ m. m) r (manifest bytes) file part end → (m : Manifest) → IsManifest m → bytes ≡ manifest_text m → AnswersPart (λ x. x) r (Ok m) file part end
manifest_only bytes file part end r h m fit is =
    let e : manifest bytes ≡ Ok m = ap manifest is ∙ manifest_again m fit in
    subst (λ (read : Result Manifest ℕ). AnswersPart (λ x. x) r read file part end) e h

pub bytes_again : {E : Type 0} (m : Manifest) (r : Result (List ℕ) E) → IsManifest m → IfOk r (λ b. b ≡ manifest_text m) → IfOk r (λ b. manifest b ≡ Ok m)
bytes_again m (Ok b) fit h = ap manifest h ∙ manifest_again m fit
bytes_again m (Err e) fit h = tt
