-- What is kept stays within its limits.
use Rattle.std.proofs.Common.{ℕ, ◌≡◌, ◌<◌, ◌≤◌, true, false, List, [], ◌∷◌, ◌++◌, length, arith, sym, subst, length-append}
use Rattle.std.proofs.lemmas.List.Elements.{All-push}
use Rattle.ri_base.specs.Ratio.{Ratio}
use Rattle.ri_base.specs.Text.{is_docno}
use Rattle.ri_base.specs.declared.limits.TheConstants.{MAX_PRIOR_ROWS}
use Rattle.prior_lines.specs.Rows.{IsKept, IsSmall, Kept, is_full}

pub room_for : (rows : List (List ℕ × Ratio)) → is_full rows ≡ false → length rows < MAX_PRIOR_ROWS
room_for rows is = grind (arith, is)

pub pushed_is_kept : (now new : Kept) (k : List ℕ) (f : Ratio) → IsKept now → is_docno k ≡ true → is_full now.rows ≡ false → IsSmall f → new ≡ record { rest = now.rest; rows = now.rows ++ (k, f) ∷ [] } → IsKept new
pushed_is_kept now new k f kept docno room small is =
    let few : length (now.rows ++ (k, f) ∷ []) ≤ MAX_PRIOR_ROWS = omega (arith, room_for now.rows room, length-append now.rows ((k, f) ∷ [])) in
    subst IsKept (sym is) (record { few = few; named = All-push (λ r. is_docno r.0 ≡ true) now.rows (k, f) kept.named docno; small = All-push (λ r. IsSmall r.1) now.rows (k, f) kept.small small; small_rest = kept.small_rest })
