-- the entries of a manifest: one spelling
use Rattle.std.proofs.Common.{◌≡◌, ℕ, ◌+◌, ◌^◌, ◌<◌, nat_le, true, List, [], ◌∷◌, ◌++◌, length, Ok, refl, sym, ap}
use Rattle.std.specs.List.{flat_map}
use Rattle.std.specs.Int.{w32, w64, to_le_bytes}
use Rattle.ri_base.specs.declared.limits.TheConstants.{MAX_PRIORS}
use Rattle.ri_base.specs.declared.text.TheConstants.{NAME_BYTES}
use Rattle.ri_base.specs.Fields.{number, number_between, rising_numbers, ruled, ruled_byte, text}
use Rattle.ri_base.specs.Reading.{◌>>=◌, AllFit, repeat}
use Rattle.ri_base.specs.Spelling.{spelled_text}
use Rattle.ri_base.proofs.Codec.{IsCodec, codec_then, codec_as, number_codec, ruled_codec, ruled_byte_codec, text_codec, repeat_codec, wide32, wide64}
use Rattle.manifest.specs.Entries.{BehindPrior, behind, behind_prior, file_number, is_docs, is_mark, is_number, is_prior_name, is_stale, marks, prior, priors, segment, segments, stale, stale_number, with_number}
use Rattle.manifest.specs.Fits.{FitsNumber, FitsMark, FitMarks, FitsDocs, FitsSegment, FitSegments, FitsStale, FitStale, FitsName, FitsPrior, FitPriors}
use Rattle.manifest.specs.Spelling.{spelled_marks, spelled_prior, spelled_priors, spelled_segment, spelled_segments, spelled_stale}
use Rattle.manifest.specs.declared.manifest.PriorEntry.{PriorEntry}
use Rattle.manifest.specs.declared.manifest.SegEntry.{SegEntry}

marks_codec : (docs : ℕ) → IsCodec (marks docs) spelled_marks (FitMarks docs)
unfolding marks
marks_codec docs =
    codec_then (number w32) (to_le_bytes w32) (λ n. n < 2 ^ 32)
    (λ n bytes. rising_numbers docs n bytes)
    (λ n ms. flat_map (to_le_bytes w32) ms)
    (λ n ms. (length ms ≡ n) × AllFit (FitsMark docs) (λ _ m. m + 1) 0 ms)
    (λ ms. length ms)
    (number_codec w32 (2 ^ 32) wide32)
    (λ n _. repeat_codec (number_between docs) (to_le_bytes w32) (FitsMark docs) (λ _ m. m + 1) (λ low. ruled_codec w32 (2 ^ 32) (is_mark docs low) wide32) n 0)
    (λ n ms _ h. h.0)

segment_codec : (next : ℕ) (used : List ℕ) → IsCodec (segment next used) spelled_segment (FitsSegment next used)
unfolding segment
segment_codec next used =
    codec_then (file_number next used) (to_le_bytes w64) (FitsNumber next used)
    (λ n bytes. ruled w32 is_docs bytes >>= λ d. marks d.0 d.1 >>= λ ms. Ok (record { number = n; docs = d.0; marks = ms.0 }, ms.1))
    (λ n e. to_le_bytes w32 e.docs ++ spelled_marks e.marks)
    (λ n e. FitsDocs e.docs × (FitMarks e.docs e.marks × (record { number = n; docs = e.docs; marks = e.marks } ≡ e)))
    (λ e. e.number)
    (ruled_codec w64 (2 ^ 64) (is_number next used) wide64)
    (λ n _. codec_then (ruled w32 is_docs) (to_le_bytes w32) FitsDocs
    (λ d bytes. marks d bytes >>= λ ms. Ok (record { number = n; docs = d; marks = ms.0 }, ms.1))
    (λ d e. spelled_marks e.marks)
    (λ d e. FitMarks d e.marks × (record { number = n; docs = d; marks = e.marks } ≡ e))
    (λ e. e.docs)
    (ruled_codec w32 (2 ^ 32) is_docs wide32)
    (λ d _. codec_as (marks d) spelled_marks (FitMarks d) (λ ms. record { number = n; docs = d; marks = ms }) (λ e. e.marks) (marks_codec d) (λ ms h. refl))
    (λ d e _ h. sym (ap (λ (x : SegEntry). x.docs) h.1)))
    (λ n e _ h. sym (ap (λ (x : SegEntry). x.number) h.1.1))

pub segments_codec : (next : ℕ) → IsCodec (segments next) spelled_segments (FitSegments next)
unfolding segments
segments_codec next =
    codec_then (number w32) (to_le_bytes w32) (λ n. n < 2 ^ 32)
    (λ n bytes. repeat (segment next) (λ used e. with_number used e.number) n [] bytes)
    (λ n es. flat_map spelled_segment es)
    (λ n es. (length es ≡ n) × AllFit (FitsSegment next) (λ used e. with_number used e.number) [] es)
    (λ es. length es)
    (number_codec w32 (2 ^ 32) wide32)
    (λ n _. repeat_codec (segment next) spelled_segment (FitsSegment next) (λ used e. with_number used e.number) (segment_codec next) n [])
    (λ n es _ h. h.0)

pub stale_codec : (next : ℕ) (used : List ℕ) → IsCodec (stale next used) spelled_stale (FitStale next used)
unfolding stale
stale_codec next used =
    codec_then (number w64) (to_le_bytes w64) (λ n. n < 2 ^ 64)
    (λ n bytes. repeat (stale_number next) behind n (record { low = 0; used = used }) bytes)
    (λ n ns. flat_map (to_le_bytes w64) ns)
    (λ n ns. (length ns ≡ n) × AllFit (FitsStale next) behind (record { low = 0; used = used }) ns)
    (λ ns. length ns)
    (number_codec w64 (2 ^ 64) wide64)
    (λ n _. repeat_codec (stale_number next) (to_le_bytes w64) (FitsStale next) behind (λ s. ruled_codec w64 (2 ^ 64) (is_stale next s) wide64) n (record { low = 0; used = used }))
    (λ n ns _ h. h.0)

prior_codec : (next : ℕ) (s : BehindPrior) → IsCodec (prior next s) spelled_prior (FitsPrior next s)
unfolding prior
prior_codec next s =
    codec_then (text NAME_BYTES (is_prior_name s.names)) spelled_text (FitsName s.names)
    (λ x bytes. file_number next s.used bytes >>= λ n. Ok (record { name = x; number = n.0 }, n.1))
    (λ x p. to_le_bytes w64 p.number)
    (λ x p. FitsNumber next s.used p.number × (record { name = x; number = p.number } ≡ p))
    (λ p. p.name)
    (text_codec NAME_BYTES (is_prior_name s.names))
    (λ x _. codec_as (file_number next s.used) (to_le_bytes w64) (FitsNumber next s.used) (λ n. record { name = x; number = n }) (λ p. p.number) (ruled_codec w64 (2 ^ 64) (is_number next s.used) wide64) (λ n h. refl))
    (λ x p _ h. sym (ap (λ (y : PriorEntry). y.name) h.1))

pub priors_codec : (next : ℕ) (used : List ℕ) → IsCodec (priors next used) spelled_priors (FitPriors next used)
unfolding priors
priors_codec next used =
    codec_then (ruled_byte (λ n. nat_le n MAX_PRIORS)) (λ b. b ∷ []) (λ n. nat_le n MAX_PRIORS ≡ true)
    (λ n bytes. repeat (prior next) behind_prior n (record { names = []; used = used }) bytes)
    (λ n ps. flat_map spelled_prior ps)
    (λ n ps. (length ps ≡ n) × AllFit (FitsPrior next) behind_prior (record { names = []; used = used }) ps)
    (λ ps. length ps)
    (ruled_byte_codec (λ n. nat_le n MAX_PRIORS))
    (λ n _. repeat_codec (prior next) spelled_prior (FitsPrior next) behind_prior (prior_codec next) n (record { names = []; used = used }))
    (λ n ps _ h. h.0)
