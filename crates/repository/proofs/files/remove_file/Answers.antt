use Rattle.std.proofs.Common.{◌≡◌, length, ap, arith}
use Rattle.repository.proofs.files.remove_file.Goals as goal

pub remove-requires : goal.remove-requires
remove-requires g c =
    let room = g.met.T.Store.has_room c.args.store.now in
    let name : length c.as_text.result.now ≡ length c.args.name.now = ap length c.as_text.ensures in
    omega arith
