-- the file of a prior: one spelling
use Rattle.std.proofs.Common.{◌≡◌, ℕ, ◌^◌, ◌<◌, ◌&&◌, nat_le, cond, eqb, Result, Err, arith, Bool, true, false, List, [], ◌∷◌, ◌++◌, length, Ok, Option, None, Some, refl, sym, ap, subst, ◌∙◌}
use Rattle.std.specs.Prelude.{IfOk}
use Rattle.std.specs.Bool.{nat_eq}
use Rattle.std.specs.Cmp.Lexicographic.{pointwise, same_text}
use Rattle.std.specs.List.{flat_map}
use Rattle.std.specs.Int.{w32, w64, to_le_bytes}
use Rattle.std.proofs.lemmas.Bool.{eqb-true}
use Rattle.std.proofs.lemmas.Bool.Decides.{nat_tests}
use Rattle.ri_base.specs.Ratio.{Ratio}
use Rattle.ri_base.specs.Text.{is_docno}
use Rattle.ri_base.specs.declared.limits.TheConstants.{MAX_PRIOR_ROWS}
use Rattle.ri_base.specs.declared.text.TheConstants.{DOCNO_BYTES}
use Rattle.ri_base.specs.Fields.{docno_behind, is_before, ruled, ruled_byte, ruled_front}
use Rattle.ri_base.specs.Reading.{AllFit, Reading, ◌>>=◌, repeat}
use Rattle.ri_base.specs.Spelling.{spelled_text}
use Rattle.ri_base.proofs.Codec.{IsBytes, IsCodec, Takes, codec_then, codec_as, bind_ok, ok_is, front_codec, ruled_codec, ruled_byte_codec, text_codec, repeat_codec, whole_takes, whole_again, wide32, wide64}
use Rattle.manifest.specs.PriorFits.{FitRows, FitsBelief, FitsRest, FitsRow, IsPrior}
use Rattle.manifest.specs.Priors.{PriorTable, Row, belief, belief_behind, flag_of, is_p, is_q, prior_fields, prior_file, prior_magic, prior_text, rest, rest_behind, row, rows, spelled_belief, spelled_rest, spelled_row, spelled_rows}

belief_codec : IsCodec belief spelled_belief FitsBelief
unfolding belief
belief_codec =
    codec_then {C = Ratio} (ruled w64 is_p) (to_le_bytes w64) (λ p. (p < 2 ^ 64) × (is_p p ≡ true))
    (λ p bytes. ruled w64 (is_q p) bytes >>= λ q. Ok (record { p = p; q = q.0 }, q.1))
    (λ p f. to_le_bytes w64 f.q)
    (λ p f. ((f.q < 2 ^ 64) × (is_q p f.q ≡ true)) × (record { p = p; q = f.q } ≡ f))
    (λ f. f.p)
    (ruled_codec w64 (2 ^ 64) is_p wide64)
    (λ p _. codec_as (ruled w64 (is_q p)) (to_le_bytes w64) (λ q. (q < 2 ^ 64) × (is_q p q ≡ true)) (λ q. record { p = p; q = q }) (λ f. f.q) (ruled_codec w64 (2 ^ 64) (is_q p) wide64) (λ q h. refl))
    (λ p f _ h. sym (ap (λ (x : Ratio). x.p) h.1))

abbrev FitsDocno : List ℕ → List ℕ → Type 0
FitsDocno before x = (nat_le 1 (length x) && nat_le (length x) DOCNO_BYTES ≡ true) × (is_docno x && is_before before x ≡ true)

row_codec : (before : List ℕ) → IsCodec (row before) spelled_row (FitsRow before)
unfolding row
row_codec before =
    codec_then {C = Row} (docno_behind before) spelled_text (FitsDocno before)
    (λ d bytes. belief bytes >>= λ f. Ok (record { docno = d; belief = f.0 }, f.1))
    (λ d r. spelled_belief r.belief)
    (λ d r. FitsBelief r.belief × (record { docno = d; belief = r.belief } ≡ r))
    (λ r. r.docno)
    (text_codec DOCNO_BYTES (λ x. is_docno x && is_before before x))
    (λ d _. codec_as belief spelled_belief FitsBelief (λ f. record { docno = d; belief = f }) (λ r. r.belief) belief_codec (λ f h. refl))
    (λ d r _ h. sym (ap (λ (x : Row). x.docno) h.1))

rows_codec : IsCodec rows spelled_rows FitRows
unfolding rows
rows_codec =
    codec_then {C = List Row} (ruled w32 (λ n. nat_le n MAX_PRIOR_ROWS)) (to_le_bytes w32) (λ n. (n < 2 ^ 32) × (nat_le n MAX_PRIOR_ROWS ≡ true))
    (λ n bytes. repeat row (λ _ r. r.docno) n [] bytes)
    (λ n rs. flat_map spelled_row rs)
    (λ n rs. (length rs ≡ n) × AllFit FitsRow (λ _ r. r.docno) [] rs)
    (λ rs. length rs)
    (ruled_codec w32 (2 ^ 32) (λ n. nat_le n MAX_PRIOR_ROWS) wide32)
    (λ n _. repeat_codec row spelled_row FitsRow (λ _ r. r.docno) row_codec n [])
    (λ n rs _ h. h.0)

-- ---- the belief of the documents without a row

abbrev FitsBehind : ℕ → Option Ratio → Type 0
FitsBehind a r = (flag_of r ≡ a) × FitsRest r

is_one : (a : ℕ) → nat_le a 1 ≡ true → eqb a 0 ≡ false → 1 ≡ a
is_one a h k = grind (arith, nat_tests)

behind_codec : (a : ℕ) → nat_le a 1 ≡ true → IsCodec (rest_behind a) belief_behind (FitsBehind a)
behind_codec a small = record { takes = taking; again = reading }
  where
    by : (b : Bool) → eqb a 0 ≡ b → (bytes : List ℕ) (x : Option Ratio × List ℕ) → IsBytes bytes → cond {A = Reading (Option Ratio)} b (Ok (None, bytes)) (belief bytes >>= λ f. Ok (Some f.0, f.1)) ≡ Ok x → Takes bytes (belief_behind x.0) x.1 × FitsBehind a x.0
    by true k bytes x ok e =
        subst (λ (y : Option Ratio × List ℕ). Takes bytes (belief_behind y.0) y.1 × FitsBehind a y.0) (ok_is (None, bytes) x e) (record { parts = refl; rest_fits = ok }, (sym (eqb-true a 0 k), tt))
    by false k bytes x ok e =
        let b = bind_ok (belief bytes) (λ f. Ok (Some f.0, f.1)) x e in
        let p = belief_codec.takes bytes b.0 ok b.1 in
        let made : Option Ratio × List ℕ = (Some b.0.0, b.0.1) in
        subst (λ (y : Option Ratio × List ℕ). Takes bytes (belief_behind y.0) y.1 × FitsBehind a y.0) (ok_is made x b.2) (p.0, (is_one a small k, p.1))

    taking : (bytes : List ℕ) (x : Option Ratio × List ℕ) → IsBytes bytes → rest_behind a bytes ≡ Ok x → Takes bytes (belief_behind x.0) x.1 × FitsBehind a x.0
    taking bytes x ok e = by (eqb a 0) refl bytes x ok e

    reading : (r : Option Ratio) (more : List ℕ) → FitsBehind a r → rest_behind a (belief_behind r ++ more) ≡ Ok (r, more)
    reading None more h = subst (λ n. rest_behind n more ≡ Ok (None, more)) h.0 refl
    reading (Some f) more h = subst (λ n. rest_behind n (spelled_belief f ++ more) ≡ Ok (Some f, more)) h.0 (ap (λ (y : Reading Ratio). y >>= λ f. Ok (Some f.0, f.1)) (belief_codec.again f more h.1))

abbrev FitsFlagged : Option Ratio → Type 0
FitsFlagged r = (nat_le (flag_of r) 1 ≡ true) × FitsBehind (flag_of r) r

rest_codec : IsCodec rest spelled_rest FitsFlagged
unfolding rest
rest_codec =
    codec_then {C = Option Ratio} (ruled_byte (λ n. nat_le n 1)) (λ b. b ∷ []) (λ n. nat_le n 1 ≡ true)
    rest_behind (λ a r. belief_behind r) FitsBehind flag_of
    (ruled_byte_codec (λ n. nat_le n 1)) behind_codec (λ a r _ h. h.0)

flagged : (r : Option Ratio) → FitsRest r → FitsFlagged r
flagged None h = (refl, (refl, h))
flagged (Some f) h = (refl, (refl, h))

-- ---- the file

abbrev FitsMagic : List ℕ → Type 0
FitsMagic m = (length m ≡ 8) × (pointwise nat_eq m prior_magic ≡ true)

abbrev FitsFile : PriorTable → Type 0
FitsFile t = FitsMagic prior_magic × (FitsFlagged t.rest × (FitRows t.rows × (record { rest = t.rest; rows = t.rows } ≡ t)))

prior_codec : IsCodec prior_fields prior_text FitsFile
unfolding prior_fields
prior_codec =
    codec_then {C = PriorTable} (ruled_front 8 (λ x. pointwise nat_eq x prior_magic)) (λ m. m) FitsMagic
    (λ m bytes. rest bytes >>= λ r. rows r.1 >>= λ rs. Ok (record { rest = r.0; rows = rs.0 }, rs.1))
    (λ m t. spelled_rest t.rest ++ spelled_rows t.rows)
    (λ m t. FitsFlagged t.rest × (FitRows t.rows × (record { rest = t.rest; rows = t.rows } ≡ t)))
    (λ t. prior_magic)
    (front_codec 8 (λ m. pointwise nat_eq m prior_magic))
    (λ m _. codec_then {C = PriorTable} rest spelled_rest FitsFlagged
    (λ r bytes. rows bytes >>= λ rs. Ok (record { rest = r; rows = rs.0 }, rs.1))
    (λ r t. spelled_rows t.rows)
    (λ r t. FitRows t.rows × (record { rest = r; rows = t.rows } ≡ t))
    (λ t. t.rest)
    rest_codec
    (λ r _. codec_as rows spelled_rows FitRows (λ rs. record { rest = r; rows = rs }) (λ t. t.rows) rows_codec (λ rs h. refl))
    (λ r t _ h. sym (ap (λ (x : PriorTable). x.rest) h.1)))
    (λ m t h _. sym (same_text m prior_magic (sym h.1)))

pub prior_takes : (bytes : List ℕ) (t : PriorTable) → IsBytes bytes → prior_file bytes ≡ Ok t → (bytes ≡ prior_text t) × IsPrior t
prior_takes bytes t small e =
    let w = whole_takes prior_fields prior_text FitsFile (λ _. true) (λ t. t) prior_codec bytes t small e in
    let fit : FitsFile t = subst FitsFile w.is w.fit in
    (w.spelled ∙ ap prior_text w.is, (fit.1.0.1.1, fit.1.1.0))

pub prior_again : (t : PriorTable) → IsPrior t → prior_file (prior_text t) ≡ Ok t
prior_again t fit =
    whole_again prior_fields prior_text FitsFile (λ _. true) (λ t. t) prior_codec t ((refl, refl), (flagged t.rest fit.0, (fit.1, refl))) refl

pub whole_prior : (bytes : List ℕ) (t : PriorTable) (behind : List ℕ) → prior_fields bytes ≡ Ok (t, behind) → length behind ≡ 0 → prior_file bytes ≡ Ok t
whole_prior bytes t behind h k = rw (h, k) refl

pub table_again : {E : Type 0} (t : PriorTable) (r : Result (List ℕ) E) → IsPrior t → IfOk r (λ b. b ≡ prior_text t) → IfOk r (λ b. prior_file b ≡ Ok t)
table_again t (Ok b) fit h = ap prior_file h ∙ prior_again t fit
table_again t (Err e) fit h = tt
