use Rattle.std.proofs.Common.{Global, Vec, ℕ, codes, refl}
use Rattle.repository.specs.Names.{manifest_name}
use Rattle.repository.proofs.ManifestLemmas.{told_file_is}
use Rattle.repository.proofs.files.manifest_file.Goals as goal

pub returns-in-Ok-clause-bytes : goal.returns-in-Ok-clause-bytes
unfolding manifest_name
returns-in-Ok-clause-bytes g c = λ f told.
    told_file_is (λ (bytes : Vec ℕ Global). bytes.items) (g.T.Store.files c.args.store.now) f (codes "manifest") manifest_name c.in-Ok.found told refl c.in-Ok.ensures.bytes
