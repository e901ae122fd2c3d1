-- what a reading of fields has tested
use Rattle.std.proofs.Common.{◌≡◌, ◌<◌, ◌≤◌, ℕ, zero, suc, ◌&&◌, nat_lt, nat_le, Bool, true, List, [], ◌∷◌, Ok, subst, arith}
use Rattle.std.specs.Int.{Width, w16, w32}
use Rattle.std.specs.List.{All, AllByRecursion}
use Rattle.std.proofs.lemmas.Bool.{and_parts, ltb-true}
use Rattle.std.proofs.lemmas.Bool.Decides.{nat_tests}
use Rattle.std.proofs.lemmas.List.Elements.{All-from_recursion, All-weaker}
use Rattle.ri_base.specs.Fields.{number, ruled}
use Rattle.ri_base.specs.Reading.{◌>>=◌, kept, repeat}
use Rattle.seg_codec.specs.Documents.{row, rows, first_row, is_behind}
use Rattle.seg_codec.specs.declared.documents.Row.{Row}
use Rattle.ri_base.proofs.Codec.{bind_ok, kept_ok, ok_is}

pub record IsRow (names tokens : ℕ) (r : Row) : Type 0 where
  pub known : r.name < names
  pub some : r.begin < r.end
  pub within : r.end ≤ tokens

ruled_ok : (w : Width) (rule : ℕ → Bool) (bytes : List ℕ) (x : ℕ × List ℕ) → ruled w rule bytes ≡ Ok x → rule x.0 ≡ true
unfolding ruled
ruled_ok w rule bytes x e =
    let a = bind_ok (number w bytes) (λ n. kept (rule n.0) n bytes) x e in
    let k = kept_ok (rule a.0.0) a.0 x bytes a.2 in
    subst (λ (y : ℕ × List ℕ). rule y.0 ≡ true) k.1 k.0

is_le_true : (a b : ℕ) → nat_le a b ≡ true → a ≤ b
is_le_true a b h = grind (arith, nat_tests)

is_row : (names tokens : ℕ) (before : Row) (bytes : List ℕ) (x : Row × List ℕ) → row names tokens before bytes ≡ Ok x → IsRow names tokens x.0
unfolding row
is_row names tokens before bytes x e =
    let a = bind_ok (ruled w16 (λ n. nat_lt n names) bytes) (λ n. ruled w32 (λ b. nat_le before.begin b) n.1 >>= λ b. ruled w32 (λ e. nat_lt b.0 e && nat_le e tokens && is_behind before (record { name = n.0; begin = b.0; end = e })) b.1 >>= λ e. Ok (record { name = n.0; begin = b.0; end = e.0 }, e.1)) x e in
    let b = bind_ok (ruled w32 (λ b. nat_le before.begin b) a.0.1) (λ b. ruled w32 (λ e. nat_lt b.0 e && nat_le e tokens && is_behind before (record { name = a.0.0; begin = b.0; end = e })) b.1 >>= λ e. Ok (record { name = a.0.0; begin = b.0; end = e.0 }, e.1)) x a.2 in
    let d = bind_ok (ruled w32 (λ e. nat_lt b.0.0 e && nat_le e tokens && is_behind before (record { name = a.0.0; begin = b.0.0; end = e })) b.0.1) (λ e. Ok (record { name = a.0.0; begin = b.0.0; end = e.0 }, e.1)) x b.2 in
    let made : Row × List ℕ = (record { name = a.0.0; begin = b.0.0; end = d.0.0 }, d.0.1) in
    let r1 : nat_lt a.0.0 names ≡ true = ruled_ok w16 (λ n. nat_lt n names) bytes a.0 a.1 in
    let r3 = and_parts (nat_lt b.0.0 d.0.0 && nat_le d.0.0 tokens) (is_behind before made.0) (ruled_ok w32 (λ e. nat_lt b.0.0 e && nat_le e tokens && is_behind before (record { name = a.0.0; begin = b.0.0; end = e })) b.0.1 d.0 d.1) in
    let r4 = and_parts (nat_lt b.0.0 d.0.0) (nat_le d.0.0 tokens) r3.0 in
    subst (λ (y : Row × List ℕ). IsRow names tokens y.0) (ok_is made x d.2) (record { known = ltb-true _ _ r1; some = ltb-true _ _ r4.0; within = is_le_true _ _ r4.1 })

are_rows : (names tokens n : ℕ) (before : Row) (bytes : List ℕ) (x : List Row × List ℕ) → repeat (row names tokens) (λ _ r. r) n before bytes ≡ Ok x → AllByRecursion (IsRow names tokens) x.0
unfolding repeat
are_rows names tokens zero before bytes x e = subst (λ (y : List Row × List ℕ). AllByRecursion (IsRow names tokens) y.0) (ok_is ([], bytes) x e) tt
are_rows names tokens (suc n) before bytes x e =
    let a = bind_ok (row names tokens before bytes) (λ y. repeat (row names tokens) (λ _ r. r) n y.0 y.1 >>= λ ys. Ok (y.0 ∷ ys.0, ys.1)) x e in
    let b = bind_ok (repeat (row names tokens) (λ _ r. r) n a.0.0 a.0.1) (λ ys. Ok (a.0.0 ∷ ys.0, ys.1)) x a.2 in
    let made : List Row × List ℕ = (a.0.0 ∷ b.0.0, b.0.1) in
    subst (λ (y : List Row × List ℕ). AllByRecursion (IsRow names tokens) y.0) (ok_is made x b.2) (is_row names tokens before bytes a.0 a.1, are_rows names tokens n a.0.0 a.0.1 b.0 b.1)

all_rows : (names tokens : ℕ) (bytes : List ℕ) (rs : List Row) (rest : List ℕ) → rows names tokens bytes ≡ Ok (rs, rest) → All (IsRow names tokens) rs
unfolding rows
all_rows names tokens bytes rs rest e =
    let a = bind_ok (number w16 bytes) (λ count. repeat (row names tokens) (λ _ r. r) count.0 first_row count.1) (rs, rest) e in
    All-from_recursion (IsRow names tokens) rs (are_rows names tokens a.0.0 first_row a.0.1 (rs, rest) a.2)

pub known_rows : (names tokens : ℕ) (bytes : List ℕ) (rs : List Row) (rest : List ℕ) → rows names tokens bytes ≡ Ok (rs, rest) → All (λ r. r.name < names) rs
known_rows names tokens bytes rs rest e = All-weaker (IsRow names tokens) (λ r. r.name < names) (λ r h. h.known) rs (all_rows names tokens bytes rs rest e)

pub some_rows : (names tokens : ℕ) (bytes : List ℕ) (rs : List Row) (rest : List ℕ) → rows names tokens bytes ≡ Ok (rs, rest) → All (λ r. r.begin < r.end) rs
some_rows names tokens bytes rs rest e = All-weaker (IsRow names tokens) (λ r. r.begin < r.end) (λ r h. h.some) rs (all_rows names tokens bytes rs rest e)
