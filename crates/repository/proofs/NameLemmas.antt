-- Names of files are ASCII, have 20 bytes, and are distinct.
use Rattle.std.proofs.Common.{◌≡◌, ◌<◌, ◌≤◌, ◌^◌, ◌∙◌, ℕ, suc, List, length, get_or, ap, subst, sym, arith, rules, IsAscii, codes}
use Rattle.std.proofs.lemmas.List.{append_cancel_left}
use Rattle.std.proofs.lemmas.Str.{IsAscii-append}
use Rattle.disk_index.specs.Names.{hex, segment_name}
use Rattle.disk_index.proofs.NameLemmas.{IsAscii-hex, IsAscii-segment_name, hex-injective, length-hex, length-segment_name}
use Rattle.repository.specs.Names.{manifest_name, prior_name}

pub length-prior_name : (n : ℕ) → length (prior_name n) ≡ 20
unfolding prior_name
length-prior_name n = ap (λ k. suc (suc (suc (suc k)))) (length-hex 16 n)

pub IsAscii-prior_name : (n : ℕ) → IsAscii (prior_name n)
unfolding prior_name
IsAscii-prior_name n = IsAscii-append (codes "pri-") (hex 16 n) (search rules) (IsAscii-hex 16 n)

pub segment_name-manifest : (n : ℕ) → manifest_name ≡ segment_name n → ⊥
unfolding segment_name manifest_name
segment_name-manifest n e = (let first : 109 ≡ 115 = ap (λ (l : List ℕ). get_or l 0 0) e in omega (arith, first))

pub prior_name-manifest : (n : ℕ) → manifest_name ≡ prior_name n → ⊥
unfolding prior_name manifest_name
prior_name-manifest n e = (let first : 109 ≡ 112 = ap (λ (l : List ℕ). get_or l 0 0) e in omega (arith, first))

pub segment_name-prior : (m n : ℕ) → segment_name m ≡ prior_name n → ⊥
unfolding prior_name segment_name
segment_name-prior m n e = (let first : 115 ≡ 112 = ap (λ (l : List ℕ). get_or l 0 0) e in omega (arith, first))

pub prior_name-injective : (m n : ℕ) → m < 2 ^ 64 → n < 2 ^ 64 → prior_name m ≡ prior_name n → m ≡ n
unfolding prior_name
prior_name-injective m n hm hn e = hex-injective 16 m n hm hn (append_cancel_left (codes "pri-") (hex 16 m) (hex 16 n) e)

-- ---- what a store asks of a name

pub segment_ascii : (name : List ℕ) (n : ℕ) → name ≡ segment_name n → IsAscii name
segment_ascii name n is = subst IsAscii (sym is) (IsAscii-segment_name n)

pub segment_short : (name : List ℕ) (n : ℕ) → name ≡ segment_name n → length name ≤ 30
segment_short name n is = (let long : length name ≡ 20 = ap length is ∙ length-segment_name n in omega (arith, long))

pub prior_ascii : (name : List ℕ) (n : ℕ) → name ≡ prior_name n → IsAscii name
prior_ascii name n is = subst IsAscii (sym is) (IsAscii-prior_name n)

pub prior_short : (name : List ℕ) (n : ℕ) → name ≡ prior_name n → length name ≤ 30
prior_short name n is = (let long : length name ≡ 20 = ap length is ∙ length-prior_name n in omega (arith, long))
