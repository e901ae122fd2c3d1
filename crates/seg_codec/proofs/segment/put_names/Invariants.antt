use Rattle.std.proofs.Common.{◌≡◌, ◌++◌, drop, take}
use Rattle.std.specs.Prelude.{IsTrue}
use Rattle.std.specs.List.{All, flat_map}
use Rattle.ri_base.specs.Text.{is_name}
use Rattle.ri_base.specs.Spelling.{spelled_text}
use Rattle.seg_codec.proofs.segment.put_names.Given as goal

abbrev pub invariant-loop-name : goal.invariant-loop-name
invariant-loop-name l = record {
  written : l.out.items ++ flat_map spelled_text (drop l.name-index l.names) ≡ l.fn.out.items ++ flat_map spelled_text l.names;
  formed : All (λ n. IsTrue (is_name n)) (take l.name-index l.names);
}
