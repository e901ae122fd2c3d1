use Rattle.std.proofs.Common.{◌≡◌, List, ℕ, Some, length, ap, subst, arith}
use Rattle.std.specs.Option.{option_map}
use Rattle.store_ends.specs.Files.{set_file, whole}
use Rattle.repository.proofs.SaveLemmas.{any-failed}
use Rattle.repository.proofs.files.put_file.Goals as goal

pub put-requires : goal.put-requires
put-requires g c =
    let room = g.met.T.Store.has_room c.args.store.now in
    let name : length c.as_text.result.now ≡ length c.args.name.now = ap length c.as_text.ensures in
    omega arith

pub returns-in-Err-clause-changed : goal.returns-in-Err-clause-changed
returns-in-Err-clause-changed g c =
    any-failed c.as_text.result.now c.args.name.now (g.T.Store.files c.args.store.now) (g.T.Store.files c.put.new.self) c.put.result c.in-Err.fault c.in-Err.is c.as_text.ensures
    c.put.ensures.failed (λ memory. (c.put.ensures.memory memory).1.same_files)

pub returns-in-Ok-clause-changed : goal.returns-in-Ok-clause-changed
returns-in-Ok-clause-changed g c = (
  whole (Some c.args.bytes.now),
  subst (λ (l : List ℕ). g.T.Store.files c.put.new.self ≡ option_map (set_file l (whole (Some c.args.bytes.now))) (g.T.Store.files c.args.store.now)) c.as_text.ensures c.in-Ok.ensures.done,
)
