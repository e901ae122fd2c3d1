use Rattle.std.proofs.Common.{◌∙◌, codes, refl}
use Rattle.repository.specs.Names.{manifest_name}
use Rattle.repository.proofs.ManifestLemmas.{told_there}
use Rattle.repository.proofs.files.has_manifest.Goals as goal

pub returns-in-Ok-clause-found : goal.returns-in-Ok-clause-found
unfolding manifest_name
returns-in-Ok-clause-found g c = λ f told.
    c.is_some.ensures ∙ told_there (g.T.Store.files c.args.store.now) f (codes "manifest") manifest_name c.in-Ok.length told refl c.in-Ok.ensures.length
