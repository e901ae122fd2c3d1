use Rattle.std.proofs.Common.{◌≡◌, ℕ, List, [], Option, length, refl, subst, sym, arith, IsAscii, ap, ◌∙◌}
use Rattle.std.specs.Option.{unwrap_or}
use Rattle.disk_index.proofs.NameLemmas.{IsAscii-segment_name, length-segment_name}
use Rattle.disk_index.proofs.ReadingLemmas.{told_absent, told_length}
use Rattle.disk_index.proofs.reading.file_length.Goals as goal

pub as_text-requires : goal.as_text-requires
as_text-requires g c = subst IsAscii (sym c.segment_name-name.ensures) (IsAscii-segment_name _)

pub len-requires : goal.len-requires
len-requires g c =
    let room = g.met.T.Store.has_room c.args.store.now in
    let name : length c.as_text.result.now ≡ 20 = ap length (c.as_text.ensures ∙ c.segment_name-name.ensures) ∙ length-segment_name _ in
    omega arith

pub returns-in-Ok-Some-clause-length : goal.returns-in-Ok-Some-clause-length
returns-in-Ok-Some-clause-length g c = λ f told.
    let t = told_length (g.T.Store.files c.args.store.now) f c.as_text.result.now _ c.in-Ok-Some.length told (c.as_text.ensures ∙ c.segment_name-name.ensures) (rw c.in-Ok-Some.field-0-is at c.in-Ok-Some.ensures.length) in
    t.2 ∙ ap length (sym (ap (λ (o : Option (List ℕ)). unwrap_or o []) t.1))

pub returns-in-Ok-None-clause-fault : goal.returns-in-Ok-None-clause-fault
returns-in-Ok-None-clause-fault g c = λ f told.
    (refl, told_absent (g.T.Store.files c.args.store.now) f c.as_text.result.now _ told (c.as_text.ensures ∙ c.segment_name-name.ensures) (rw c.in-Ok-None.field-0-is at c.in-Ok-None.ensures.length))
