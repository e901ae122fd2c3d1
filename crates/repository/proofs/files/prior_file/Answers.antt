use Rattle.std.proofs.Common.{◌≡◌, Global, Vec, ℕ, length, subst, sym, arith, IsAscii, ap, ◌∙◌}
use Rattle.repository.specs.Names.{prior_name}
use Rattle.repository.proofs.ManifestLemmas.{told_file_is}
use Rattle.repository.proofs.NameLemmas.{IsAscii-prior_name, length-prior_name}
use Rattle.repository.proofs.files.prior_file.Goals as goal

pub as_text-requires : goal.as_text-requires
as_text-requires g c = subst IsAscii (sym c.prior_name-name.ensures) (IsAscii-prior_name _)

pub read_file-requires : goal.read_file-requires
read_file-requires g c =
    let room = g.met.T.Store.has_room c.args.store.now in
    let name : length c.as_text.result.now ≡ 20 = ap length (c.as_text.ensures ∙ c.prior_name-name.ensures) ∙ length-prior_name _ in
    omega arith

pub returns-in-Ok-clause-bytes : goal.returns-in-Ok-clause-bytes
returns-in-Ok-clause-bytes g c = λ f told.
    told_file_is (λ (bytes : Vec ℕ Global). bytes.items) (g.T.Store.files c.args.store.now) f c.as_text.result.now (prior_name c.args.number) c.in-Ok.found told (c.as_text.ensures ∙ c.prior_name-name.ensures) c.in-Ok.ensures.bytes
