use Rattle.std.proofs.Common.{refl, List, ◌<◌, ◌^◌, length, sym, subst, arith}
use Rattle.std.proofs.lemmas.Result.{err_from_is_err_and}
use Rattle.ri_base.specs.Documents.{Document}
use Rattle.ri_base.proofs.Codec.{IsBytes}
use Rattle.seg_codec.specs.Held.{AreRanked, Holds}
use Rattle.seg_codec.specs.Whole.{grammar}
use Rattle.seg_codec.proofs.HeldSteps.{none_of, some_of}
use Rattle.seg_codec.proofs.ReadingLemmas.{broken_across, broken_only, ends_within, place_across, held_found, held_only, kept_if_read, none_only}
use Rattle.seg_codec.proofs.reading.read_segment.Goals as goal

pub returns-in_err-whole-clause-only : goal.returns-in_err-whole-clause-only
returns-in_err-whole-clause-only c docs part is =
    let room : length c.args.bytes.now < 2 ^ 64 = omega arith in
    let p = err_from_is_err_and c.from_residual.result c.from_residual.ensures.1 in
    rw (p.1, p.2) (broken_only c.in_err-whole.field-0.0 c.args.bytes.now c.args.file docs c.in_err-whole.ensures room part is)

pub ranks_held-requires : goal.ranks_held-requires
ranks_held-requires c =
    let small : IsBytes c.args.bytes.now = record { small = λ i. omega (arith, c.type_inv.bytes i) } in
    kept_if_read c.args.bytes.now c.in_ok-whole.whole small c.in_ok-whole.ensures

pub documents_held-requires : goal.documents_held-requires
documents_held-requires c =
    let w = c.in_ok-whole.whole in
    let small : IsBytes c.args.bytes.now = record { small = λ i. omega (arith, c.type_inv.bytes i) } in
    let ranked = some_of c.in_ok-ranks.field-0 c.in-Some.ranks c.in-Some.is (λ v. AreRanked w v.items) c.in_ok-ranks.ensures.found in
    record { kept = kept_if_read c.args.bytes.now w small c.in_ok-whole.ensures; ranked = subst (AreRanked w) (sym c.deref.ensures.value) ranked }

pub returns-in_ok-documents_held-in-Some-clause-found : goal.returns-in_ok-documents_held-in-Some-clause-found
returns-in_ok-documents_held-in-Some-clause-found c =
    let small : IsBytes c.args.bytes.now = record { small = λ i. omega (arith, c.type_inv.bytes i) } in
    held_found c.args.bytes.now c.in_ok-whole.whole c.in_ok-documents_held-in-Some.field-0 small c.in_ok-whole.ensures c.in_ok-documents_held-in-Some.ensures

pub returns-in_ok-documents_held-in-Some-clause-only : goal.returns-in_ok-documents_held-in-Some-clause-only
returns-in_ok-documents_held-in-Some-clause-only c docs part is =
    let room : length c.args.bytes.now < 2 ^ 64 = omega arith in
    held_only c.args.bytes.now c.in_ok-whole.whole c.in_ok-documents_held-in-Some.field-0 docs c.in_ok-whole.ensures c.in_ok-documents_held-in-Some.ensures room part is

pub returns-in_ok-place_told_twice-in-None-clause-only : goal.returns-in_ok-place_told_twice-in-None-clause-only
returns-in_ok-place_told_twice-in-None-clause-only c docs part is =
    let w = c.in_ok-whole.whole in
    let room : length c.args.bytes.now < 2 ^ 64 = omega arith in
    let none = none_of c.in_ok-ranks.field-0 c.in-None.is ((docs : List Document) → Holds docs w → ⊥) c.in_ok-ranks.ensures.none in
    none_only c.args.bytes.now w docs c.in_ok-whole.ensures none room part is

pub returns-in_err-whole-clause-across : goal.returns-in_err-whole-clause-across
returns-in_err-whole-clause-across c w is =
    let p = err_from_is_err_and c.from_residual.result c.from_residual.ensures.1 in
    rw (p.1, p.2) (broken_across c.in_err-whole.field-0.0 (grammar c.args.bytes.now) c.args.file (length c.args.bytes.now) w c.in_err-whole.ensures is)

pub place_told_twice-requires : goal.place_told_twice-requires
place_told_twice-requires c =
    let small : IsBytes c.args.bytes.now = record { small = λ i. omega (arith, c.type_inv.bytes i) } in
    let end = ends_within c.args.bytes.now c.in_ok-whole.whole small c.in_ok-whole.ensures in
    let room : length c.args.bytes.now < 2 ^ 64 = omega arith in
    omega (arith, end)

pub returns-in_ok-place_told_twice-in-None-clause-across : goal.returns-in_ok-place_told_twice-in-None-clause-across
returns-in_ok-place_told_twice-in-None-clause-across c w is =
    (refl, refl, place_across (grammar c.args.bytes.now) c.in_ok-whole.whole w c.in_ok-place_told_twice-in-None.field-0 c.unwrap_or.result (length c.args.bytes.now) c.in_ok-whole.ensures is c.in_ok-place_told_twice-in-None.ensures c.unwrap_or.ensures)
