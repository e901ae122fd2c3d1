use Rattle.std.proofs.Common.{None, refl}
use Rattle.store_ends.specs.Files.{whole}
use Rattle.store_ends.proofs.folder_store.FolderStoreStore.put.Goals as goal

pub returns-clause-failed : goal.returns-clause-failed
returns-clause-failed g c = λ _. (whole None, refl)
