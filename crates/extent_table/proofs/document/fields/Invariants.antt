use Rattle.std.proofs.Common.{◌≡◌, ◌<◌, ◌≤◌, ◌⊎◌, length}
use Rattle.std.specs.List.{All, AllPairs}
use Rattle.ri_base.specs.Documents.{IsBefore}
use Rattle.ri_base.specs.declared.limits.TheConstants.{MAX_DOC_FIELDS}
use Rattle.extent_table.proofs.document.fields.Given as goal

abbrev pub invariant-loop-word : goal.invariant-loop-word
invariant-loop-word l = record {
  few : length l.spans.items ≤ MAX_DOC_FIELDS;
  some : All (λ f. f.begin < f.end) l.spans.items;
  within : All (λ f. f.end ≤ l.length) l.spans.items;
  in_order : AllPairs IsBefore l.spans.items;
  none_later : All (λ f. (f.begin < l.last.0) ⊎ (f.begin ≡ l.last.0) × (f.end ≤ l.last.1)) l.spans.items;
}
